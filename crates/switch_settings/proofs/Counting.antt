-- Numbers below a bound, counted.
use Rattle.std.proofs.Common.{◌≡◌, ◌<◌, ◌≤◌, ◌+◌, inl, inr, ℕ, zero, suc, List, [], ◌∷◌, length, refl, ap, arith}
use Rattle.std.specs.Prelude.{All, sum_by}
use Rattle.std.specs.List.{range_with_len, AllByRecursion}
use Rattle.std.proofs.lemmas.Bool.{cases_eq}
use Rattle.std.proofs.lemmas.List.Sums.{sum_by-cons}
use Rattle.std.proofs.lemmas.List.Elements.{All-head, All-tail}
use Rattle.link_graph.proofs.Sums.{hit, hit_same, hit_other}

none_above : (u a n : ℕ) → u < a → sum_by (λ t. hit t u) (range_with_len a n) ≡ 0
none_above u a zero h = refl
none_above u a (suc n) h = omega (
  arith,
  sum_by-cons (λ t. hit t u) a (range_with_len (a + 1) n),
  hit_other a u (λ e. omega arith),
  none_above u (a + 1) n (omega arith),
)

counted_once : (u a n : ℕ) → a ≤ u → u < a + n → sum_by (λ t. hit t u) (range_with_len a n) ≡ 1
counted_once u a zero low high = absurd (omega arith)
counted_once u a (suc n) low high = elim (cases_eq u a) [
  | inl e ↦ omega (arith, sum_by-cons (λ t. hit t u) a (range_with_len (a + 1) n), hit_same a u e, none_above u (a + 1) n (omega arith))
  | inr ne ↦ omega (arith, sum_by-cons (λ t. hit t u) a (range_with_len (a + 1) n), hit_other a u ne, counted_once u (a + 1) n (omega arith) (omega arith))
]

pub each_once : (xs : List ℕ) (n : ℕ) → All (λ u. u < n) xs → AllByRecursion (λ u. sum_by (λ t. hit t u) (range_with_len 0 n) ≡ 1) xs
each_once [] n h = tt
each_once (x ∷ xs) n h = (counted_once x 0 n (omega arith) (omega (arith, All-head (λ u. u < n) x xs h)), each_once xs n (All-tail (λ u. u < n) x xs h))

pub length_range : (a n : ℕ) → length (range_with_len a n) ≡ n
length_range a zero = refl
length_range a (suc n) = ap suc (length_range (a + 1) n)
