-- The settings of a schedule have each transfer of the batch once. So what is counted over them,
-- one by one, is counted over the batch.
use Rattle.std.proofs.Common.{◌≡◌, ◌==◌, ℕ, zero, suc, ◌+◌, ◌<◌, ◌≤◌, List, [], ◌∷◌, ◌++◌, length, take, Bool, cond, Option, Some, None, slice_get, refl, sym, ap, ◌∙◌, inl, inr, arith}
use Rattle.std.specs.Prelude.{count_by, sum_by}
use Rattle.std.specs.List.{concat}
use Rattle.std.proofs.lemmas.Bool.{cases_lt, ne_eqb, eq-eqb}
use Rattle.std.proofs.lemmas.List.{take_all}
use Rattle.std.proofs.lemmas.List.Sums.{sum_by-cons, sum_by-append, sum_by_push}
use Rattle.std.proofs.lemmas.Option.{slice_get_cases}
use Rattle.batch.specs.declared.transfer.Transfer.{Transfer}
use Rattle.link_graph.specs.Marks.{members}
use Rattle.link_graph.specs.Schedules.{IsScheduleOf}
use Rattle.link_graph.proofs.Once.{times_concat}
use Rattle.steady_schedule.specs.Waiting.{sum_below}
use Rattle.link_graph.proofs.Sums.{sum_same as sum_equal}
use Rattle.steady_schedule.proofs.StepSums.{swap_below, one_at}
use Rattle.steady_schedule.proofs.Ends.{one_more}
use Rattle.steady_schedule.proofs.Sums.{only, sum_same, sum_none, sum_changed}

module _ (batch : List Transfer) (p : Transfer → Bool) where
  abbrev worth_of : Option Transfer → ℕ
  worth_of None = 0
  worth_of (Some x) = cond (p x) 1 0

  -- 1 for the number of a transfer that passes
  abbrev pub worth : ℕ → ℕ
  worth t = worth_of (slice_get batch t)

  pub members_worth : (setting : List ℕ) → count_by p (members batch setting) ≡ sum_by worth setting
  members_worth [] = refl
  members_worth (t ∷ ts) = elim (slice_get_cases batch t).1 [
    | inl q ↦
        let one : members batch (t ∷ ts) ≡ q.0 ∷ members batch ts = rw q.2 refl in
        omega (arith, ap (count_by p) one, sum_by-cons worth t ts, ap worth_of q.2, sum_by-cons (λ x. cond (p x) 1 0) q.0 (members batch ts), members_worth ts)
    | inr q ↦
        let none : members batch (t ∷ ts) ≡ members batch ts = rw q.1 refl in
        omega (arith, ap (count_by p) none, sum_by-cons worth t ts, ap worth_of q.1, members_worth ts)
  ]

  below_worth : (n : ℕ) → n ≤ length batch → sum_below n worth ≡ count_by p (take n batch)
  unfolding sum_below
  below_worth zero le = refl
  below_worth (suc n) le = elim (slice_get_cases batch n).1 [
    | inl q ↦
        let next : suc n ≡ n + 1 = omega arith in
        let more : take (suc n) batch ≡ take n batch ++ q.0 ∷ [] = ap (λ (k : ℕ). take k batch) next ∙ one_more batch n q.0 q.2 in
        let pushed : count_by p (take n batch ++ q.0 ∷ []) ≡ count_by p (take n batch) + worth_of (Some q.0) = sum_by_push (λ x. cond (p x) 1 0) (take n batch)
        q.0 in
        let here : sum_below (suc n) worth ≡ count_by p (take n batch ++ q.0 ∷ []) = omega (arith, pushed, ap worth_of q.2, below_worth n (omega arith)) in
        here ∙ sym (ap (count_by p) more)
    | inr q ↦ absurd (omega (arith, q.0))
  ]

  one_worth : (u : ℕ) → sum_below (length batch) (λ t. only (u == t) (worth t)) ≡ worth u
  one_worth u =
      let n : ℕ = length batch in
      elim (cases_lt u n) [
        | inl lt ↦
            let changed = sum_changed n u (λ t. 0) (λ t. only (u == t) (worth t)) lt (λ t t_in ne. rw (ne_eqb u t (λ e. ne (sym e))) refl) in
            let here : only (u == u) (worth u) ≡ worth u = rw (eq-eqb u u refl) refl in
            omega (arith, changed, here, sum_none n)
        | inr le ↦ elim (slice_get_cases batch u).1 [
          | inl q ↦ absurd (omega (arith, le, q.1))
          | inr q ↦
              let none = sum_same n (λ t. only (u == t) (worth t)) (λ t. 0) (λ t t_in. rw (ne_eqb u t (λ e. omega (arith, e, le, t_in))) refl) in
              omega (arith, none, sum_none n, ap worth_of q.1)
        ]
      ]

  -- each number once
  once_worth : (xs : List ℕ) → ((t : ℕ) → t < length batch → count_by (λ u. u == t) xs ≡ 1) → sum_by worth xs ≡ sum_below (length batch) worth
  once_worth xs once =
      let n : ℕ = length batch in
      sym (sum_equal (λ u. sum_below n (λ t. only (u == t) (worth t))) worth xs one_worth)
      ∙ (sym (swap_below n (λ u t. only (u == t) (worth t)) xs)
      ∙ sum_same n (λ t. sum_by (λ u. only (u == t) (worth t)) xs) worth (λ t lt. one_at (λ u. u) (λ u m. u == m) t (λ k. worth t) xs (once t lt)))

  all_worth : (settings : List (List ℕ)) → sum_by worth (concat settings) ≡ sum_by (λ setting. count_by p (members batch setting)) settings
  all_worth [] = refl
  all_worth (s ∷ settings) = omega (
    arith,
    sum_by-append worth s (concat settings),
    members_worth s,
    all_worth settings,
    sum_by-cons (λ setting. count_by p (members batch setting)) s settings,
  )

  pub counted_once : (settings : List (List ℕ)) → IsScheduleOf batch settings → sum_by (λ setting. count_by p (members batch setting)) settings
      ≡ count_by p batch
  counted_once settings schedule =
      let whole : take (length batch) batch ≡ batch = take_all (length batch) batch (omega arith) in
      sym (all_worth settings)
      ∙ (once_worth (concat settings) (λ t lt. sym (times_concat t settings) ∙ schedule.once t lt)
      ∙ (below_worth (length batch) (omega arith) ∙ ap (count_by p) whole))
