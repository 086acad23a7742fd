-- How a text is read goes on as the text goes on.
use Rattle.std.proofs.Common.{◌≡◌, ℕ, List, [], ◌∷◌, ◌++◌, refl, sym, ap, ◌∙◌, append_assoc, append-nil, Option}
use Rattle.std.specs.Option.{option_to_list}
use Rattle.std.proofs.lemmas.List.Concat.{flat_map-append}
use Rattle.c004_commands.specs.Commands.{row, text, AreCommands, IsCommandFront, Spells}
use Rattle.c004_commands.specs.Reader.{Reads}
use Rattle.c004_commands.specs.declared.command.Command.{Command}
use Rattle.c004_commands.proofs.Rows.{same_row, no_row}

-- the commands of a text begin those of each longer text, and the others are spelt after them
pub record GoesOn (commands others : List Command) (bytes left : List ℕ) : Type 0 where
  pub later : List Command
  pub others_are : others ≡ commands ++ later
  pub bytes_are : bytes ≡ text later ++ left

goes_on : (commands others : List Command) (bytes left : List ℕ) → IsCommandFront left → text commands ++ bytes ≡ text others ++ left
    → GoesOn commands others bytes left
goes_on [] others bytes left r e = record { later = others; others_are = refl; bytes_are = e }
goes_on (c ∷ cs) [] bytes left r e =
    absurd (no_row c (text cs ++ bytes) left r (sym e ∙ append_assoc (row c) (text cs) bytes))
goes_on (c ∷ cs) (d ∷ ds) bytes left r e =
    let same = same_row c d (text cs ++ bytes) (text ds ++ left)
    (sym (append_assoc (row c) (text cs) bytes) ∙ e ∙ append_assoc (row d) (text ds) left) in
    let rec = goes_on cs ds bytes left r same.1 in
    let others_are : d ∷ ds ≡ c ∷ (cs ++ rec.later) = cc in
    record { later = rec.later; others_are = others_are; bytes_are = rec.bytes_are }

pub longer_text : (bytes more : List ℕ) (commands others : List Command) (rest left : List ℕ) → Spells bytes commands rest → Spells (bytes ++ more) others left
    → GoesOn commands others (rest ++ more) left
longer_text bytes more commands others rest left s t =
    goes_on commands others (rest ++ more) left t.partial
    (sym (append_assoc (text commands) rest more) ∙ ap (λ b. b ++ more) (sym s.whole) ∙ t.whole)

none_later : (later : List Command) (rest left : List ℕ) → IsCommandFront rest → rest ≡ text later ++ left → (later ≡ []) × (rest ≡ left)
none_later [] rest left r e = (refl, e)
none_later (c ∷ cs) rest left r e = absurd (no_row c (text cs ++ left) rest r (e ∙ append_assoc (row c) (text cs) left))

pub one_reading : (bytes : List ℕ) (commands others : List Command) (rest left : List ℕ) → Spells bytes commands rest → Spells bytes others left
    → (commands ≡ others) × (rest ≡ left)
one_reading bytes commands others rest left s t =
    let g = goes_on commands others rest left t.partial (sym s.whole ∙ t.whole) in
    let none = none_later g.later rest left s.partial g.bytes_are in
    (sym (append-nil commands) ∙ ap (λ later. commands ++ later) (sym none.0) ∙ sym g.others_are, none.1)

pub AreCommands-append : (cs ds : List Command) → AreCommands cs → AreCommands ds → AreCommands (cs ++ ds)
AreCommands-append [] ds p q = q
AreCommands-append (c ∷ cs) ds p q = (p.0, AreCommands-append cs ds p.1 q)

pub AreCommands-back : (cs ds : List Command) → AreCommands (cs ++ ds) → AreCommands ds
AreCommands-back [] ds p = p
AreCommands-back (c ∷ cs) ds p = AreCommands-back cs ds p.1

-- a byte that is read adds to the text and to its commands
pub spells_more : (bytes : List ℕ) (commands : List Command) (rest : List ℕ) (byte : ℕ) (given : Option Command) (left : List ℕ) → Spells bytes commands rest
    → Reads rest byte given left → IsCommandFront left → Spells (bytes ++ byte ∷ []) (commands ++ option_to_list given) left
spells_more bytes commands rest byte given left s r p = record {
  whole = ap (λ t. t ++ byte ∷ []) s.whole ∙ append_assoc (text commands) rest (byte ∷ []) ∙ ap (λ t. text commands ++ t) r.whole
      ∙ sym (append_assoc (text commands) (text (option_to_list given)) left) ∙ ap (λ t. t ++ left) (sym (flat_map-append row commands (option_to_list given)));
  ports = AreCommands-append commands (option_to_list given) s.ports r.ports;
  partial = p;
}
