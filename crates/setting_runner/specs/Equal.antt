-- When two lists of what transfers have moved are equal, as a test.
use Rattle.std.specs.Prelude.{ℕ, Bool, ◌==◌, List}
use Rattle.std.specs.Cmp.Lexicographic.{pointwise}
use Rattle.std.specs.Ordering.{on, eq_of_both}

-- whether there are as many transfers, each with its number and its words in its place
abbrev pub same_moved : List (ℕ × ℕ) → List (ℕ × ℕ) → Bool
same_moved = pointwise (eq_of_both (on (λ m. m.0) ◌==◌) (on (λ m. m.1) ◌==◌))
