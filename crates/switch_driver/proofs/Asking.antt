-- The outputs of a switch, asked one after another.
use Rattle.std.proofs.Common.{◌≡◌, ◌<◌, ◌≤◌, ◌+◌, ◌++◌, ◌∷◌, [], ℕ, zero, suc, List, length, map, drop, get_or, Option, Some, None, refl, sym, ap, ◌∙◌, subst, arith, append_assoc, length-append}
use Rattle.std.proofs.Common.{below_more}
use Rattle.std.proofs.lemmas.List.{get_or_append_left, take-append-drop}
use Rattle.std.proofs.lemmas.List.FromFn.{map-range_with_len_more, take-map-range_with_len}
use Rattle.std.proofs.Math.Seq.{get_or-append_seam}
use Rattle.std.specs.List.{range_with_len}
use Rattle.c004_commands.specs.declared.command.Command.{Command}
use Rattle.c004_commands.specs.declared.command.Command.TheVariants.{Enquire}
use Rattle.c004_commands.specs.declared.port.TheConstants.{PORTS}
use Rattle.crossbar.specs.Switch.{Switch, enquiries}
use Rattle.crossbar.specs.Traffic.{Passes, PassesFront, conversed}
use Rattle.crossbar.specs.Pairs.{switch_of}
use Rattle.crossbar.specs.declared.chip.Chip.{Chip}
use Rattle.crossbar.specs.declared.chip.Wiring.{Wiring}
use Rattle.crossbar.specs.declared.pair.Pair.{Pair}
use Rattle.crossbar.specs.declared.traffic.Passing.{Passing}
use Rattle.switch_settings.proofs.Asking.{passes_then}
use Rattle.switch_settings.proofs.Replies.{missed}
use Rattle.switch_settings.specs.Answers.{Agrees, Misses, seen}
use Rattle.switch_settings.specs.Pairs.{all_enquiries}
use Rattle.switch_driver.proofs.Conversing.{conversed-append, front_after, front_longer}
use Rattle.switch_settings.specs.Asking.{first_enquiries, IsUnanswered}
use Rattle.switch_settings.specs.declared.fault.SettingFault.{SettingFault}
use Rattle.switch_settings.specs.declared.fault.SettingFault.TheVariants.{Switch as Disagreed}

-- ---- enquiries

first_more : (n : ℕ) → first_enquiries (n + 1) ≡ first_enquiries n ++ Enquire n ∷ []
first_more n = map-range_with_len_more Enquire 0 n n (omega arith)

some_asked : (a n : ℕ) → enquiries (map Enquire (range_with_len a n)) ≡ n
some_asked a zero = refl
some_asked a (suc n) = omega (arith, some_asked (a + 1) n)

pub first_asked : (n : ℕ) → enquiries (first_enquiries n) ≡ n
first_asked n = some_asked 0 n

-- what passed, with one enquiry more
pub passed_more : (chip : Chip) (n : ℕ) (replies : List ℕ) (reply : ℕ) (old mid new : Option (List Passing)) → length replies ≡ n
    → Passes old mid (conversed chip (first_enquiries n) replies) → Passes mid new (conversed chip (Enquire n ∷ []) (reply ∷ []))
    → Passes old new (conversed chip (first_enquiries (n + 1)) (replies ++ reply ∷ []))
passed_more chip n replies reply old mid new many p q =
    let whole = conversed-append chip (first_enquiries n) (Enquire n ∷ []) replies (reply ∷ []) (many ∙ sym (first_asked n)) in
    let all : conversed chip (first_enquiries (n + 1)) (replies ++ reply ∷ []) ≡ conversed chip (first_enquiries n) replies
    ++ conversed chip (Enquire n ∷ []) (reply ∷ []) =
    ap (λ (cs : List Command). conversed chip cs (replies ++ reply ∷ [])) (first_more n) ∙ whole in
    subst (Passes old new) (sym all) (passes_then old mid new _ _ p q)

-- replies before the last one
agree_before : (switch : Switch) (n : ℕ) (replies : List ℕ) (reply : ℕ) → length replies ≡ n
    → ((before : ℕ) → before < n → Agrees switch before (get_or replies before 0)) → (before : ℕ) → before < n
    → Agrees switch before (get_or (replies ++ reply ∷ []) before 0)
agree_before switch n replies reply many agree before lt =
    subst (Agrees switch before) (sym (get_or_append_left replies (reply ∷ []) 0 before (omega (arith, lt, many)))) (agree before lt)

-- the last one
last_reply : (n : ℕ) (replies : List ℕ) (reply : ℕ) → length replies ≡ n → get_or (replies ++ reply ∷ []) n 0 ≡ reply
last_reply n replies reply many = ap (λ (i : ℕ). get_or (replies ++ reply ∷ []) i 0) (sym many) ∙ get_or-append_seam replies reply [] 0

-- all of them agree
pub agree_more : (switch : Switch) (n : ℕ) (replies : List ℕ) (reply : ℕ) → length replies ≡ n
    → ((before : ℕ) → before < n → Agrees switch before (get_or replies before 0)) → Agrees switch n reply
    → (before : ℕ) → before < n + 1 → Agrees switch before (get_or (replies ++ reply ∷ []) before 0)
agree_more switch n replies reply many agree last =
    below_more (λ k. Agrees switch k (get_or (replies ++ reply ∷ []) k 0)) n (agree_before switch n replies reply many agree)
    (rw (last_reply n replies reply many) last)

-- a switch was asked up to the first output that doesn't agree
pub disagreed_at : (fault : SettingFault) (chip : Chip) (wiring : Wiring) (pairs : List Pair) (wanted : Switch) (n output : ℕ) (replies : List ℕ) (reply : ℕ)
    (old new : Option (List Passing)) → wanted ≡ switch_of wiring pairs → output ≡ n → n < PORTS → length replies ≡ n
    → fault ≡ Disagreed (seen chip wanted output reply) → (Agrees wanted output reply → ⊥)
    → ((before : ℕ) → before < n → Agrees wanted before (get_or replies before 0))
    → Passes old new (conversed chip (first_enquiries (n + 1)) (replies ++ reply ∷ [])) → IsUnanswered fault chip wiring pairs old new
disagreed_at fault chip wiring pairs wanted n output replies reply old new e f lt many is differs agree passed =
    let all = replies ++ reply ∷ [] in
    let here = last_reply n replies reply many in
    let first : Misses chip (switch_of wiring pairs) all fault =
    missed fault chip (switch_of wiring pairs) wanted all n output e f lt (is ∙ ap (λ (r : ℕ). Disagreed (seen chip wanted output r)) (sym here))
    (rw (sym here) at differs) (agree_before wanted n replies reply many agree) in
    let at : fault ≡ Disagreed (seen chip (switch_of wiring pairs) n reply) = rw (e, f) at is in
    rw at (record { replies = all; all = omega (arith, many, length-append replies (reply ∷ [])); are = rw at at first; passed = passed })

-- ---- where the port fails

-- all enquiries: the first ones, and the later ones
all_parts : (n : ℕ) → n ≤ PORTS → all_enquiries ≡ first_enquiries n ++ drop n all_enquiries
all_parts n le = sym (take-append-drop n all_enquiries) ∙ ap (λ (cs : List Command). cs ++ drop n all_enquiries) (take-map-range_with_len Enquire 0 PORTS n le)

pub front_more : (chip : Chip) (n : ℕ) (replies : List ℕ) (old mid new : Option (List Passing)) → n < PORTS → length replies ≡ n
    → Passes old mid (conversed chip (first_enquiries n) replies) → PassesFront chip (Enquire n ∷ []) mid new → PassesFront chip all_enquiries old new
front_more chip n replies None mid new lt many p q = tt
front_more chip n replies (Some old) None new lt many p q = absurd p
front_more chip n replies (Some old) (Some mid) None lt many p q = absurd q
front_more chip n replies (Some old) (Some mid) (Some new) lt many p (more, noted, front) = (
  _,
  noted ∙ ap (λ (ps : List Passing). ps ++ more) p ∙ append_assoc old _ more,
  rw (all_parts (n + 1) (omega arith), first_more n)
      (front_longer chip (first_enquiries n ++ Enquire n ∷ []) (drop (n + 1) all_enquiries) _
      (front_after chip (first_enquiries n) (Enquire n ∷ []) replies more (many ∙ sym (first_asked n)) front)),
)
