-- Distinct numbers below n are at most n.
use Rattle.std.proofs.Common.{◌≡◌, ℕ, zero, suc, ◌+◌, ◌<◌, ◌≤◌, List, [], ◌∷◌, length, All, inl, inr, arith}
use Rattle.std.proofs.lemmas.Bool.{cases_eq, cases_lt}
use Rattle.std.proofs.lemmas.List.Elements.{All-head, All-tail}
use Rattle.std.proofs.lemmas.List.Sums.{sum_by-cons}
use Rattle.link_graph.specs.Certificates.{AreDistinct}
use Rattle.link_graph.proofs.Sums.{hit, hit_same, sum_below}
use Rattle.link_graph.proofs.Once.{standings, once_from_distinct, stands_from_count}

one_hit : (n x : ℕ) → x < n → 1 ≤ sum_below n (λ t. hit t x)
one_hit zero x lt = absurd (omega arith)
one_hit (suc n) x lt = elim (cases_eq x n) [ inl e ↦ omega (arith, hit_same n x e) | inr ne ↦ omega (arith, one_hit n x (omega arith)) ]

one_more : (n x : ℕ) (xs : List ℕ) → sum_below n (λ t. standings t (x ∷ xs)) ≡ sum_below n (λ t. hit t x) + sum_below n (λ t. standings t xs)
one_more zero x xs = omega arith
one_more (suc n) x xs = omega (arith, sum_by-cons (hit n) x xs, one_more n x xs)

-- each number below n stands somewhere
all_stand : (n : ℕ) (xs : List ℕ) → All (λ t. t < n) xs → length xs ≤ sum_below n (λ t. standings t xs)
all_stand n [] below = omega arith
all_stand n (x ∷ xs) below = omega (arith, one_more n x xs, one_hit n x (All-head (λ t. t < n) x xs below), all_stand n xs (All-tail (λ t. t < n) x xs below))

at_most : (n : ℕ) (f : ℕ → ℕ) → ((t : ℕ) → f t ≤ 1) → sum_below n f ≤ n
at_most zero f each = omega arith
at_most (suc n) f each = omega (arith, each n, at_most n f each)

pub few : (n : ℕ) (xs : List ℕ) → All (λ t. t < n) xs → AreDistinct xs → length xs ≤ n
few n xs below distinct =
    let once : (t : ℕ) → standings t xs ≤ 1 = λ t. elim (cases_lt 0 (standings t xs)) [
      | inl some ↦ omega (arith, once_from_distinct t xs distinct (stands_from_count t xs some))
      | inr none ↦ omega arith
    ] in
    omega (arith, all_stand n xs below, at_most n (λ t. standings t xs) once)
