-- Step lists for counts.
use Rattle.std.proofs.Common.{ℕ, zero, suc, ◌≡◌, ◌≤◌, ◌<◌, ◌+◌, ◌==◌, cond, List, [], ◌++◌, length, replicate, refl, sym, subst, arith, inl, inr, All, ◌∷◌}
use Rattle.std.proofs.lemmas.Bool.{cases_eq}
use Rattle.std.proofs.lemmas.List.{get_or-replicate, length-replicate, length-map}
use Rattle.std.proofs.lemmas.List.Elements.{All-append}
use Rattle.std.proofs.lemmas.List.Sums.{sum_by-append}
use Rattle.batch.specs.Overlap.{transfer_at}
use Rattle.batch.specs.declared.transfer.Transfer.{Transfer}
use Rattle.module_memory.specs.Core.{times, at_start, run, IsStepList, found, setting_of, IsComplete}
use Rattle.module_memory.specs.Laws.{CountsAreReached}
use Rattle.module_memory.proofs.Blocks.{all_blocks}
use Rattle.module_memory.proofs.CoreLaw.{IsMoved-same, each_prefix, one_moved_from, times_same, times_other}
use Rattle.module_memory.specs.Settings.{IsRun, after_steps}
use Rattle.module_memory.specs.Store.{Store}

-- first all steps of the first transfer, then all of the next
abbrev pub steps_of : (ℕ → ℕ) → ℕ → List ℕ
steps_of m zero = []
steps_of m (suc n) = steps_of m n ++ replicate (m n) n

times-append : (i : ℕ) (xs ys : List ℕ) → times i (xs ++ ys) ≡ times i xs + times i ys
times-append i xs ys = sum_by-append (λ (k : ℕ). cond (k == i) 1 0) xs ys

times-replicate_same : (c j : ℕ) → times j (replicate c j) ≡ c
times-replicate_same zero j = refl
times-replicate_same (suc c) j = omega (arith, times_same j (replicate c j), times-replicate_same c j)

times-replicate_other : (c i j : ℕ) → (i ≡ j → ⊥) → times i (replicate c j) ≡ 0
times-replicate_other zero i j n = refl
times-replicate_other (suc c) i j n = omega (arith, times_other j i (replicate c j) n, times-replicate_other c i j n)

none_above : (m : ℕ → ℕ) (n i : ℕ) → n ≤ i → times i (steps_of m n) ≡ 0
none_above m zero i l = refl
none_above m (suc n) i l = omega (
  arith,
  times-append i (steps_of m n) (replicate (m n) n),
  none_above m n i (omega arith),
  times-replicate_other (m n) i n (λ e. omega arith),
)

pub times-steps_of : (m : ℕ → ℕ) (n i : ℕ) → i < n → times i (steps_of m n) ≡ m i
times-steps_of m zero i l = absurd (omega arith)
times-steps_of m (suc n) i l =
    elim (cases_eq i n) [
      | inl e ↦ subst (λ (x : ℕ). times x (steps_of m n ++ replicate (m n) n) ≡ m x) (sym e)
          (omega (arith, times-append n (steps_of m n) (replicate (m n) n), none_above m n n (omega arith), times-replicate_same (m n) n))
      | inr k ↦ omega (arith, times-append i (steps_of m n) (replicate (m n) n), times-steps_of m n i (omega arith), times-replicate_other (m n) i n k)
    ]

pub known : (m : ℕ → ℕ) (n : ℕ) → All (λ i. i < n) (steps_of m n)
known m zero = λ k d l. absurd (omega arith)
known m (suc n) =
    All-append (λ i. i < suc n) (steps_of m n) (replicate (m n) n)
    (λ k d l. omega (arith, known m n k d l))
    (λ k d l. omega (arith, get_or-replicate (m n) k n d (omega (arith, length-replicate (m n) n))))

-- all words of each transfer can pass, so a run of any settings leads somewhere
pub any_run : (opening s : Store) (batch : List Transfer) (settings : List (List ℕ)) → (t : Store) × IsRun opening s batch settings t
any_run opening s batch [] = (s, refl)
any_run opening s batch (numbers ∷ settings) =
    let n = length (setting_of batch numbers) in
    let words : ℕ → ℕ = λ _. s.shape.words in
    let steps = steps_of words n in
    let all : IsComplete (setting_of batch numbers) s.shape.words steps = record { known = known words n; complete = λ i l. times-steps_of words n i l } in
    let rest = any_run opening (after_steps opening s batch numbers steps).store batch settings in
    (rest.0, (steps, all, rest.1))

pub counts_are_reached : CountsAreReached
counts_are_reached opening s t batch numbers moved r few h =
    let ts = setting_of batch numbers in
    let n = length ts in
    let long = length-map numbers (transfer_at batch) in
    let steps = steps_of moved n in
    let list : IsStepList ts s.shape.words steps =
    record { known = known moved n; bounded = λ i l. omega (arith, times-steps_of moved n i l, few i (omega (arith, long))) } in
    let there = IsMoved-same opening s ts _ moved (run (found batch opening) ts (at_start s ts) steps).store (λ i l. times-steps_of moved n i l)
    (each_prefix opening s batch numbers r steps list) in (
      steps,
      list,
      (λ i l. times-steps_of moved n i (omega (arith, long))),
      one_moved_from opening s t (run (found batch opening) ts (at_start s ts) steps).store
          ts moved (all_blocks s r.whole) h there,
    )
