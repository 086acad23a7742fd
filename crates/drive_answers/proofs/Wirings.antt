-- The text of a wiring that is lent, and its bytes.
use Rattle.std.proofs.Common.{ℕ, List, Option, Some, None}
use Rattle.std.specs.Borrow.{Bor}
use Rattle.std.specs.Prelude.{option_map}
use Rattle.plan_answers.specs.Lent.{bytes_of}

-- what is so of the text is so of its bytes
pub of_bytes : (Is : Option (List ℕ) → Type 0) (lent : Option (Bor (List ℕ))) → Is (option_map (λ (text : Bor (List ℕ)). text.now) lent) → Is (bytes_of lent)
of_bytes Is None is = is
of_bytes Is (Some text) is = is
