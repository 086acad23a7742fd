-- A line is that of at most one command.
use Rattle.std.proofs.Common.{◌≡◌, ℕ, List, ◌++◌, ◌∷◌, get_or, codes, Some, None, refl, sym, ap, ◌∙◌, arith}
use Rattle.std.specs.Fmt.{decimal}
use Rattle.std.proofs.lemmas.Fmt.{decimal_injective}
use Rattle.std.proofs.lemmas.List.{append_cancel_left}
use Rattle.batch.specs.Text.{IsNumber, number, space}
use Rattle.batch.proofs.Lines.{one_number}
use Rattle.line_words.specs.HexWords.{hex8}
use Rattle.line_words.proofs.Numbers.{space_ends, one_hex8, after_hex8, hex8_in_front}
use Rattle.client_session.specs.declared.command.SessionCommand.{SessionCommand}
use Rattle.client_session.specs.declared.command.SessionCommand.TheVariants.{Batch, Plan, Run, Show, Drop, Peek, Poke, Progress, Bye}
use Rattle.client_session.specs.Commands.{line_of, CanBeSpelled}
use Rattle.client_session.specs.Laws.{OneMeaning}

-- one number after one word
one_after : (word : List ℕ) (m n : ℕ) → IsNumber m → IsNumber n → word ++ decimal m ≡ word ++ decimal n → m ≡ n
one_after word m n few less e = decimal_injective m n (omega (arith, few)) (omega (arith, less)) (append_cancel_left word (decimal m) (decimal n) e)

one_peek : (m n a b : ℕ) → CanBeSpelled (Peek m a) → CanBeSpelled (Peek n b) → line_of (Peek m a) ≡ line_of (Peek n b) → Peek m a ≡ Peek n b
one_peek m n a b p q e =
    let parts = one_number m n space (hex8 a) (hex8 b) p.0 q.0 space_ends
    (append_cancel_left (codes "peek ") (number m space ++ hex8 a) (number n space ++ hex8 b) e) in
    ap (λ x. Peek x a) parts.0 ∙ ap (Peek n) (one_hex8 a b p.1 q.1 parts.1)

one_poke : (m n a b v w : ℕ) → CanBeSpelled (Poke m a v) → CanBeSpelled (Poke n b w) → line_of (Poke m a v) ≡ line_of (Poke n b w) → Poke m a v ≡ Poke n b w
one_poke m n a b v w p q e =
    let parts = one_number m n space (hex8 a ++ space ∷ hex8 v) (hex8 b ++ space ∷ hex8 w) p.0 q.0 space_ends
    (append_cancel_left (codes "poke ") (number m space ++ (hex8 a ++ space ∷ hex8 v)) (number n space ++ (hex8 b ++ space ∷ hex8 w)) e) in
    let address : a ≡ b = one_hex8 a b p.1 q.1 (hex8_in_front a b (space ∷ hex8 v) (space ∷ hex8 w) parts.1) in
    let word : v ≡ w = one_hex8 v w p.2 q.2 (after_hex8 _ (hex8 v) (hex8 w) a b refl parts.1) in
    ap (λ x. Poke x a v) parts.0 ∙ ap (λ x. Poke n x v) address ∙ ap (Poke n b) word

-- the first two bytes of a line tell which command it is
first_two : (x y : List ℕ) → x ≡ y → (get_or x 0 0 ≡ get_or y 0 0) × (get_or x 1 0 ≡ get_or y 1 0)
first_two x y e = (ap (λ l. get_or l 0 0) e, ap (λ l. get_or l 1 0) e)

same_command : (a b : SessionCommand) → CanBeSpelled a → CanBeSpelled b → line_of a ≡ line_of b → a ≡ b
same_command (Batch m) (Batch n) p q e = ap Batch (one_after (codes "batch ") m n p q e)
same_command (Plan m) (Plan n) p q e = ap Plan (one_after (codes "plan ") m n p q e)
same_command (Run m) (Run n) p q e = ap Run (one_after (codes "run ") m n p q e)
same_command (Show m) (Show n) p q e = ap Show (one_after (codes "show ") m n p q e)
same_command (Drop m) (Drop n) p q e = ap Drop (one_after (codes "drop ") m n p q e)
same_command (Peek m a) (Peek n b) p q e = one_peek m n a b p q e
same_command (Poke m a v) (Poke n b w) p q e = one_poke m n a b v w p q e
same_command Progress Progress p q e = refl
same_command Bye Bye p q e = refl
same_command a b p q e = absurd (omega (arith, first_two (line_of a) (line_of b) e))

pub means_one : OneMeaning
means_one line (Some a) (Some b) p q = ap Some (same_command a b p.0 q.0 (sym p.1 ∙ q.1))
means_one line (Some a) None p q = absurd (q a p.0 p.1)
means_one line None (Some b) p q = absurd (p b q.0 q.1)
means_one line None None p q = refl
