-- What has come of a command, and one more byte.
use Rattle.std.proofs.Common.{◌≡◌, ◌<◌, ◌≤◌, ◌+◌, ℕ, List, [], ◌∷◌, ◌++◌, get_or, length, take, drop, refl, sym, ap, ◌∙◌, subst, arith, append-nil, length-append, Option, Some, None}
use Rattle.std.proofs.lemmas.List.{take-append-drop}
use Rattle.std.proofs.Math.Seq.{take-append_seam, take-append-add}
use Rattle.std.specs.Option.{option_to_list}
use Rattle.c004_commands.specs.Commands.{row, IsCommandFront, Spells}
use Rattle.c004_commands.specs.Reader.{GoesOn}
use Rattle.c004_commands.specs.declared.command.Command.{Command}
use Rattle.c004_commands.specs.declared.command.Command.TheVariants.{Connect, Join, Enquire, Settle, Reset, Cut, CutPair}
use Rattle.c004_commands.proofs.Readings.{longer_text}
use Rattle.c004_commands.proofs.Rows.{no_row}
use Rattle.crossbar.proofs.Carrying.{take_more}
use Rattle.crossbar.specs.Switch.{after, answer}
use Rattle.link_devices.specs.End.{EndState, HasTaken}

row_fits : (c : Command) → length (row c) ≤ 3
row_fits (Connect a b) = omega arith
row_fits (Join a b) = omega arith
row_fits (Enquire a) = omega arith
row_fits Settle = omega arith
row_fits Reset = omega arith
row_fits (Cut a) = omega arith
row_fits (CutPair a b) = omega arith

-- less than a command is two bytes at most
pub front_fits : (rest : List ℕ) → IsCommandFront rest → length rest ≤ 2
front_fits rest r = omega (arith, row_fits r.command, ap length r.row_is, length-append rest (r.next ∷ r.more))

-- what has come of a command is a text with no whole command
pub nothing_whole : (rest : List ℕ) → IsCommandFront rest → Spells rest [] rest
nothing_whole rest front = record { whole = refl; ports = tt; partial = front }

-- a byte that ends no command stands after what had come
pub more_begun : (rest left : List ℕ) (byte : ℕ) (given : Option Command) → given ≡ None → IsCommandFront rest → GoesOn rest byte given left → left ≡ rest
    ++ byte ∷ []
more_begun rest left byte None is front on = sym (on rest [] (nothing_whole rest front)).whole
more_begun rest left byte (Some c) is front on = absurd (cc)

row_first : (rest left : List ℕ) (byte : ℕ) (c : Command) → IsCommandFront rest → GoesOn rest byte (Some c) left → rest ++ byte ∷ [] ≡ row c ++ left
row_first rest left byte c front on =
    (on rest [] (nothing_whole rest front)).whole ∙ ap (λ (t : List ℕ). t ++ left) (append-nil (row c))

ended : (rest left : List ℕ) (byte : ℕ) (c : Command) → IsCommandFront rest → rest ++ byte ∷ [] ≡ row c ++ left → left ≡ []
ended rest [] byte c front e = refl
ended rest (x ∷ xs) byte c front e =
    let long : length rest ≡ length (row c) + length xs = omega (arith, ap length e, length-append rest (byte ∷ []), length-append (row c) (x ∷ xs)) in
    absurd (no_row c (take (length xs) (x ∷ xs)) rest front
    (sym (take-append_seam rest (byte ∷ [])) ∙ ap (take (length rest)) e ∙ ap (λ (n : ℕ). take n (row c ++ x ∷ xs)) long
    ∙ take-append-add (row c) (x ∷ xs) (length xs)))

-- after a byte that ends a command nothing has come of the next
pub none_begun : (rest left : List ℕ) (byte : ℕ) (c : Command) → IsCommandFront rest → GoesOn rest byte (Some c) left → left ≡ []
none_begun rest left byte c front on = ended rest left byte c front (row_first rest left byte c front on)

-- no byte of less than a command ends one
pub none_ends : (bytes come left : List ℕ) (k : ℕ) (c : Command) → k < length bytes → come ≡ take k bytes → IsCommandFront come
    → GoesOn come (get_or bytes k 0) (Some c) left → IsCommandFront bytes → ⊥
none_ends bytes come left k c h is front on whole =
    let parts : bytes ≡ (come ++ get_or bytes k 0 ∷ []) ++ drop (k + 1) bytes =
    rw is (sym (take-append-drop (k + 1) bytes) ∙ ap (λ (t : List ℕ). t ++ drop (k + 1) bytes) (take_more bytes k h)) in
    let longer = longer_text (come ++ get_or bytes k 0 ∷ []) (drop (k + 1) bytes) (c ∷ []) [] left bytes (on come [] (nothing_whole come front))
    (subst (λ (t : List ℕ). Spells t [] bytes) parts (nothing_whole bytes whole)) in
    let none : [] ≡ c ∷ longer.later = longer.others_are in
    cc

module _ (old new : EndState) (rest left : List ℕ) (byte : ℕ) (given : Option Command) (front : IsCommandFront rest) (same : rest ≡ old.begun)
    (on : GoesOn rest byte given left) where
  goes_on_between : left ≡ new.begun → GoesOn old.begun byte given new.begun
  goes_on_between begun =
      subst (λ (t : List ℕ). GoesOn t byte given new.begun) same (subst (λ (t : List ℕ). GoesOn rest byte given t) begun on)

  -- a byte that ends a command, which was carried out
  pub took : (mid : EndState) (c : Command) (reply : Option ℕ) → given ≡ Some c → mid ≡ record { switch = old.switch; begun = [] } → new
      ≡ record { switch = after c mid.switch; begun = mid.begun } → reply ≡ answer c mid.switch → HasTaken old byte (option_to_list reply) new
  took mid c reply is dropped done told =
      let none = none_begun rest left byte c front (subst (λ (o : Option Command). GoesOn rest byte o left) is on) in
      let switch : mid.switch ≡ old.switch = ap (λ (e : EndState). e.switch) dropped in
      let begun : new.begun ≡ [] = ap (λ (e : EndState). e.begun) done ∙ ap (λ (e : EndState). e.begun) dropped in
      record {
        given = Some c;
        goes_on = subst (λ (o : Option Command). GoesOn old.begun byte o new.begun) is (goes_on_between (none ∙ sym begun));
        switch = ap (λ (e : EndState). e.switch) done ∙ ap (after c) switch;
        answered = ap option_to_list (told ∙ ap (answer c) switch) ∙ sym (append-nil (option_to_list (answer c old.switch)));
      }

  -- a byte that ends none
  pub waited : given ≡ None → new ≡ record { switch = old.switch; begun = rest ++ byte ∷ [] } → HasTaken old byte [] new
  waited is done =
      let begun : new.begun ≡ rest ++ byte ∷ [] = ap (λ (e : EndState). e.begun) done in
      record {
        given = None;
        goes_on = subst (λ (o : Option Command). GoesOn old.begun byte o new.begun) is
            (goes_on_between (more_begun rest left byte given is front on ∙ sym begun));
        switch = ap (λ (e : EndState). e.switch) done;
        answered = refl;
      }
