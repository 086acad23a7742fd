-- Sums over steps.
use Rattle.std.proofs.Common.{◌≡◌, ℕ, zero, suc, ◌+◌, List, [], ◌∷◌, Bool, refl, ap, inl, inr, arith}
use Rattle.std.specs.Prelude.{sum_by}
use Rattle.std.proofs.lemmas.Bool.{cases_Bool}
use Rattle.std.proofs.lemmas.List.Sums.{sum_by-cons}
use Rattle.link_graph.specs.Counts.{count_below}
use Rattle.steady_schedule.specs.Waiting.{sum_below}
use Rattle.steady_schedule.proofs.Sums.{only, sum_same, sum_none, sum_both}

pub count_is_sum : (n : ℕ) (f : ℕ → Bool) → count_below n f ≡ sum_below n (λ m. only (f m) 1)
unfolding sum_below
count_is_sum zero f = refl
count_is_sum (suc n) f = omega (arith, count_is_sum n f)

pub swap_below : {J : Type 0} (n : ℕ) (F : J → ℕ → ℕ) (js : List J) → sum_below n (λ m. sum_by (λ j. F j m) js) ≡ sum_by (λ j. sum_below n (F j)) js
swap_below n F [] = sum_none n
swap_below n F (j ∷ js) =
    let split = sum_same n (λ m. sum_by (λ i. F i m) (j ∷ js)) (λ m. F j m + sum_by (λ i. F i m) js) (λ m lt. sum_by-cons (λ i. F i m) j js) in
    omega (arith, sum_by-cons (λ i. sum_below n (F i)) j js, swap_below n F js, sum_both n (F j) (λ m. sum_by (λ i. F i m) js), split)

module _ {J : Type 0} (s : J → ℕ) (a : J → ℕ → Bool) where
  -- how long a place is taken, and by how many steps
  abbrev total_of : List J → ℕ → ℕ
  total_of ks m = sum_by (λ j. only (a j m) (s j)) ks

  abbrev degree_of : List J → ℕ → ℕ
  degree_of ks m = sum_by (λ j. only (a j m) 1) ks

  none_at : (m : ℕ) (F : J → ℕ) (ks : List J) → degree_of ks m ≡ 0 → sum_by (λ j. only (a j m) (F j)) ks ≡ 0
  none_at m F [] none = refl
  none_at m F (k ∷ ks) none = elim (cases_Bool (a k m)) [
    | inl t ↦ absurd (omega (arith, none, sum_by-cons (λ j. only (a j m) 1) k ks, ap (λ (b : Bool). only b 1) t))
    | inr f ↦ omega (
      arith,
      sum_by-cons (λ j. only (a j m) (F j)) k ks,
      ap (λ (b : Bool). only b (F k)) f,
      none_at m F ks (omega (arith, none, sum_by-cons (λ j. only (a j m) 1) k ks)),
    )
  ]

  -- a step that has its place alone fills it
  pub one_at : (m : ℕ) (G : ℕ → ℕ) (ks : List J) → degree_of ks m ≡ 1 → sum_by (λ j. only (a j m) (G (s j))) ks ≡ G (total_of ks m)
  one_at m G [] one = absurd (omega (arith, one))
  one_at m G (k ∷ ks) one = elim (cases_Bool (a k m)) [
    | inl t ↦
        let rest : degree_of ks m ≡ 0 = omega (arith, one, sum_by-cons (λ j. only (a j m) 1) k ks, ap (λ (b : Bool). only b 1) t) in
        let whole : total_of (k ∷ ks) m ≡ s k = omega (
          arith,
          sum_by-cons (λ j. only (a j m) (s j)) k ks,
          ap (λ (b : Bool). only b (s k)) t,
          none_at m s ks rest,
        ) in
        rw whole (omega (arith, sum_by-cons (λ j. only (a j m) (G (s j))) k ks, ap (λ (b : Bool). only b (G (s k))) t, none_at m (λ j. G (s j)) ks rest))
    | inr f ↦
        let rest : degree_of ks m ≡ 1 = omega (arith, one, sum_by-cons (λ j. only (a j m) 1) k ks, ap (λ (b : Bool). only b 1) f) in
        let whole : total_of (k ∷ ks) m ≡ total_of ks m = omega (arith, sum_by-cons (λ j. only (a j m) (s j)) k ks, ap (λ (b : Bool). only b (s k)) f) in
        rw whole (omega (arith, sum_by-cons (λ j. only (a j m) (G (s j))) k ks, ap (λ (b : Bool). only b (G (s k))) f, one_at m G ks rest))
  ]
