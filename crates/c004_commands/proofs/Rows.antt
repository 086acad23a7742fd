-- No row begins another, and less than a row is no row.
use Rattle.std.proofs.Common.{◌≡◌, ℕ, List, [], ◌∷◌, ◌++◌, length, refl, sym, ap, ◌∙◌, append_assoc, append-nil, arith, Option, Some, None, cond, eqb, length-append, unwrap_or}
use Rattle.c004_commands.specs.Commands.{row, IsCommandFront}
use Rattle.c004_commands.specs.declared.command.Command.{Command}
use Rattle.c004_commands.specs.declared.command.Command.TheVariants.{Connect, Join, Enquire, Settle, Reset, Cut, CutPair}

-- a command of one port, and the bytes after it
with_one : (ℕ → Command) → List ℕ → Option (Command × List ℕ)
with_one make [] = None
with_one make (a ∷ bytes) = Some (make a, bytes)

-- a command of two ports, and the bytes after it
with_two : (ℕ → ℕ → Command) → List ℕ → Option (Command × List ℕ)
with_two make [] = None
with_two make (a ∷ []) = None
with_two make (a ∷ b ∷ bytes) = Some (make a b, bytes)

-- the command that the bytes begin with, and the bytes after it
first_row : List ℕ → Option (Command × List ℕ)
first_row [] = None
first_row (byte ∷ bytes) =
    cond (eqb byte 0) (with_two Connect bytes)
    (cond (eqb byte 1) (with_two Join bytes)
    (cond (eqb byte 2) (with_one Enquire bytes)
    (cond (eqb byte 3) (Some (Settle, bytes))
    (cond (eqb byte 4) (Some (Reset, bytes))
    (cond (eqb byte 5) (with_one Cut bytes)
    (cond (eqb byte 6) (with_two CutPair bytes) None))))))

first_row-row : (command : Command) (bytes : List ℕ) → first_row (row command ++ bytes) ≡ Some (command, bytes)
unfolding first_row with_one with_two
first_row-row (Connect a b) bytes = refl
first_row-row (Join a b) bytes = refl
first_row-row (Enquire a) bytes = refl
first_row-row Settle bytes = refl
first_row-row Reset bytes = refl
first_row-row (Cut a) bytes = refl
first_row-row (CutPair a b) bytes = refl

-- no row begins another
pub same_row : (c d : Command) (x y : List ℕ) → row c ++ x ≡ row d ++ y → (c ≡ d) × (x ≡ y)
same_row c d x y e =
    let both = sym (first_row-row c x) ∙ ap first_row e ∙ first_row-row d y in
    let found : Option (Command × List ℕ) → Command × List ℕ = λ o. unwrap_or o (c, x) in
    (ap (λ o. (found o).0) both, ap (λ o. (found o).1) both)

-- less than a row doesn't begin with one
pub no_row : (c : Command) (x rest : List ℕ) → IsCommandFront rest → rest ≡ row c ++ x → ⊥
no_row c x rest r e =
    let whole : row r.command ++ [] ≡ row c ++ (x ++ r.next ∷ r.more) =
    append-nil (row r.command) ∙ r.row_is ∙ ap (λ bytes. bytes ++ r.next ∷ r.more) e ∙ append_assoc (row c) x (r.next ∷ r.more) in
    let empty : [] ≡ x ++ r.next ∷ r.more = (same_row r.command c [] (x ++ r.next ∷ r.more) whole).1 in
    omega (arith, ap length empty, length-append x (r.next ∷ r.more))
