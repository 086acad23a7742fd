-- A schedule that changes the switch only at need does so at most once for each pair of links in
-- use together, and once for each link in use: each pair is over once, and each link is needed at
-- last.
use Rattle.std.proofs.Common.{◌≡◌, ◌==◌, ℕ, suc, ◌+◌, ◌<◌, ◌≤◌, List, [], ◌∷◌, length, get_or, slice_get, Bool, true, false, not, ◌&&◌, ◌||◌, Some, All, refl, sym, ◌∙◌, subst, inl, inr, eq-eqb, arith}
use Rattle.std.specs.Prelude.{nat_lt}
use Rattle.std.specs.List.{AllByRecursion, list_any, list_all}
use Rattle.std.proofs.lemmas.Bool.{cases_Bool, and_parts, eqb-true, lt-ltb, ltb-true}
use Rattle.std.proofs.lemmas.Bool.Decides.{nat_tests}
use Rattle.std.proofs.lemmas.List.Folds.{Any-from_list_any, list_any-from_Any, list_any_none}
use Rattle.std.proofs.lemmas.List.Elements.{All-from_get_or, Contains-get_or, recursion_from_All}
use Rattle.std.proofs.lemmas.List.Sums.{list_all-from_AllPass}
use Rattle.std.proofs.lemmas.Option.{get_or_from_slice_get, slice_get_cases, slice_get_within}
use Rattle.batch.specs.Batches.{IsBatch}
use Rattle.batch.specs.declared.limits.TheConstants.{MAX_MODULES}
use Rattle.batch.specs.declared.transfer.Transfer.{Transfer}
use Rattle.link_graph.specs.declared.link.End.{End}
use Rattle.link_graph.specs.declared.link.End.TheVariants.{Zero, Three}
use Rattle.link_graph.specs.declared.link.Link.{Link}
use Rattle.link_graph.specs.Counts.{module_at, uses}
use Rattle.link_graph.specs.Marks.{members}
use Rattle.link_graph.specs.Schedules.{IsScheduleOf}
use Rattle.link_graph.proofs.Users.{at_used, uses_at}
use Rattle.link_graph.proofs.Masks.{bit}
use Rattle.steady_schedule.specs.Bounds.{link_of, in_use, most_changes}
use Rattle.steady_schedule.specs.Changes.{are_partners, join_same, changes_after, changes}
use Rattle.steady_schedule.specs.Needs.{IsUsed, IsOver, ChangesAtNeed}
use Rattle.steady_schedule.specs.Needs.IsOver.{pair_done, link_needed}
use Rattle.steady_schedule.specs.Partners.{joins_to, partners}
use Rattle.steady_schedule.specs.Waiting.{sum_below}
use Rattle.steady_schedule.proofs.StepSums.{count_is_sum}
use Rattle.link_graph.proofs.Tables.{module_fits, modules_of}
use Rattle.steady_schedule.proofs.Runs.{any_some}
use Rattle.steady_schedule.proofs.Standing.{member_any, any_member, pair_stands}
use Rattle.steady_schedule.proofs.Sums.{sum_most, sum_less, at_most_sum}

-- ---- what some settings join and use

module _ (batch : List Transfer) where
  -- whether one of the settings joins the pair
  abbrev joins : List (List ℕ) → ℕ → ℕ → Bool
  joins settings u v = list_any (λ s. are_partners (members batch s) u v) settings

  -- whether the setting, and whether each of the settings, uses a link
  abbrev uses_it : End → ℕ → List ℕ → Bool
  uses_it end m s = list_any (λ x. module_at end x == m) (members batch s)

  abbrev each_uses : List (List ℕ) → End → ℕ → Bool
  each_uses settings end m = list_all (uses_it end m) settings

  abbrev pair_at : List (List ℕ) → ℕ → ℕ → ℕ
  pair_at settings u v = bit (joins settings u v)

  abbrev row_of : List (List ℕ) → ℕ → ℕ
  row_of settings u = sum_below MAX_MODULES (pair_at settings u)

  -- 1 where a link is in use, but not in each of the settings
  abbrev idle_at : List (List ℕ) → End → ℕ → ℕ
  idle_at settings end m = bit (nat_lt 0 (uses batch (link_of end m)) && not (each_uses settings end m))

  abbrev idle : List (List ℕ) → End → ℕ
  idle settings end = sum_below MAX_MODULES (idle_at settings end)

  abbrev worth : List (List ℕ) → ℕ
  worth settings = sum_below MAX_MODULES (row_of settings) + (idle settings Zero + idle settings Three)

  -- ---- one setting more

  more_joined : (a b : Bool) → bit b ≤ bit (a || b)
  more_joined a b = grind (arith, nat_tests)

  more_idle : (c a e : Bool) → bit (c && not e) ≤ bit (c && not (a && e))
  more_idle c a e = grind (arith, nat_tests)

  rows_more : (s : List ℕ) (rest : List (List ℕ)) (u : ℕ) → row_of rest u ≤ row_of (s ∷ rest) u
  rows_more s rest u = sum_most MAX_MODULES (pair_at rest u) (pair_at (s ∷ rest) u) (λ v lt. more_joined (are_partners (members batch s) u v) (joins rest u v))

  idle_more : (s : List ℕ) (rest : List (List ℕ)) (end : End) → idle rest end ≤ idle (s ∷ rest) end
  idle_more s rest end = sum_most MAX_MODULES (idle_at rest end) (idle_at (s ∷ rest) end)
      (λ m lt. more_idle (nat_lt 0 (uses batch (link_of end m))) (uses_it end m s) (each_uses rest end m))

  pairs_more : (s : List ℕ) (rest : List (List ℕ)) → sum_below MAX_MODULES (row_of rest) ≤ sum_below MAX_MODULES (row_of (s ∷ rest))
  pairs_more s rest = sum_most MAX_MODULES (row_of rest) (row_of (s ∷ rest)) (λ u lt. rows_more s rest u)

  worth_more : (s : List ℕ) (rest : List (List ℕ)) → worth rest ≤ worth (s ∷ rest)
  worth_more s rest = omega (arith, pairs_more s rest, idle_more s rest Zero, idle_more s rest Three)

  module _ (fits : IsBatch batch) where
    -- a setting that joins a pair no later one joins
    pair_less : (s : List ℕ) (rest : List (List ℕ)) (u v : ℕ) → are_partners (members batch s) u v ≡ true → joins rest u v ≡ false
        → worth rest < worth (s ∷ rest)
    pair_less s rest u v here none =
        let m = any_member batch s (λ x. x.initiator == u && x.responder == v) here in
        let both = and_parts (m.1.initiator == u) (m.1.responder == v) m.4 in
        let low = modules_of batch m.0 m.1 m.3 fits in
        let u_in : u < MAX_MODULES = omega (arith, low.0, eqb-true m.1.initiator u both.0) in
        let v_in : v < MAX_MODULES = omega (arith, low.1, eqb-true m.1.responder v both.1) in
        let at : pair_at rest u v < pair_at (s ∷ rest) u v = rw (here, none) (omega arith) in
        let row = sum_less MAX_MODULES v (pair_at rest u) (pair_at (s ∷ rest) u) v_in
        (λ w lt. more_joined (are_partners (members batch s) u w) (joins rest u w)) at in
        let all = sum_less MAX_MODULES u (row_of rest) (row_of (s ∷ rest)) u_in (λ w lt. rows_more s rest w) row in
        omega (arith, all, idle_more s rest Zero, idle_more s rest Three)

    -- a link that is in use is free in a setting, and each later one uses it
    idle_less : (s : List ℕ) (rest : List (List ℕ)) (end : End) (m : ℕ) → m < MAX_MODULES → 0 < uses batch (link_of end m) → uses_it end m s ≡ false
        → each_uses rest end m ≡ true → idle rest end < idle (s ∷ rest) end
    idle_less s rest end m m_in some free each =
        let at : idle_at rest end m < idle_at (s ∷ rest) end m = rw (lt-ltb 0 (uses batch (link_of end m)) some, free, each) (omega arith) in
        sum_less MAX_MODULES m (idle_at rest end) (idle_at (s ∷ rest) end) m_in (λ w lt. more_idle (nat_lt 0 (uses batch (link_of end w))) (uses_it end w s)
        (each_uses rest end w)) at

    link_less : (s : List ℕ) (rest : List (List ℕ)) (end : End) (m : ℕ) → m < MAX_MODULES → 0 < uses batch (link_of end m) → uses_it end m s ≡ false
        → each_uses rest end m ≡ true → worth rest < worth (s ∷ rest)
    link_less s rest Zero m m_in some free each = omega (arith, idle_less s rest Zero m m_in some free each, pairs_more s rest, idle_more s rest Three)
    link_less s rest Three m m_in some free each = omega (arith, idle_less s rest Three m m_in some free each, pairs_more s rest, idle_more s rest Zero)

  -- ---- what is over

  any_in : (p : Transfer → Bool) (xs : List Transfer) (t : ℕ) (x : Transfer) → slice_get xs t ≡ Some x → p x ≡ true → list_any p xs ≡ true
  any_in p xs t x here passes = list_any-from_Any p xs (t, x, slice_get_within xs t x here, get_or_from_slice_get xs t x x here, passes)

  used_is : (s : List ℕ) (link : Link) → IsUsed batch s link → uses_it link.end link.«module» s ≡ true
  used_is s link used =
      member_any batch s (λ x. module_at link.end x == link.«module») used.0 used.2.0 used.1 used.2.1
      (eq-eqb (module_at link.end used.2.0) link.«module» (at_used batch used.0 link used.2.0 used.2.1 used.2))

  is_used : (s : List ℕ) (link : Link) → uses_it link.end link.«module» s ≡ true → IsUsed batch s link
  is_used s link any =
      let m = any_member batch s (λ x. module_at link.end x == link.«module») any in
      (m.0, m.2, uses_at batch m.0 link m.1 m.3 (eqb-true (module_at link.end m.1) link.«module» m.4))

  over_less : IsBatch batch → (s : List ℕ) (rest : List (List ℕ)) → 0 < length rest → IsOver batch (s ∷ rest) 0 → worth rest < worth (s ∷ rest)
  over_less fits s rest some (pair_done u v here none) =
      pair_less fits s rest u v here
      (list_any_none (λ t. are_partners (members batch t) u v) rest (All-from_get_or (λ t. are_partners (members batch t) u v ≡ false) rest []
      (λ i lt. none (suc i) (omega arith) (omega arith))))
  over_less fits s rest some (link_needed link unused used) =
      let next = used 1 (omega arith) (omega (arith, some)) in
      let at = at_used batch next.0 link next.2.0 next.2.1 next.2 in
      let low : link.«module» < MAX_MODULES = omega (arith, at, module_fits link.end next.2.0 (modules_of batch next.0 next.2.0 next.2.1 fits)) in
      let used_by : Transfer → Bool = λ x. module_at link.end x == link.«module» in
      let in_use : 0 < uses batch link =
      ltb-true 0 (uses batch link)
      (any_some used_by batch ∙ any_in used_by batch next.0 next.2.0 next.2.1 (eq-eqb (module_at link.end next.2.0) link.«module» at)) in
      let free : uses_it link.end link.«module» s ≡ false = elim (cases_Bool (uses_it link.end link.«module» s)) [
        | inl t ↦ absurd (unused (is_used s link t))
        | inr f ↦ f
      ] in
      link_less fits s rest link.end link.«module» low in_use free
      (list_all-from_AllPass (uses_it link.end link.«module») rest
      (All-from_get_or (λ t. uses_it link.end link.«module» t ≡ true) rest []
      (λ i lt. used_is (get_or rest i []) link (used (suc i) (omega arith) (omega arith)))))

  over_tail : (s : List ℕ) (rest : List (List ℕ)) (k : ℕ) → IsOver batch (s ∷ rest) (suc k) → IsOver batch rest k
  over_tail s rest k (pair_done u v here none) = pair_done u v here (λ later lt within. none (suc later) (omega arith) (omega arith))
  over_tail s rest k (link_needed link unused used) = link_needed link unused (λ later lt within. used (suc later) (omega arith) (omega arith))

  needs_tail : (s : List ℕ) (rest : List (List ℕ)) → ChangesAtNeed batch (s ∷ rest) → ChangesAtNeed batch rest
  needs_tail s rest needs k lt differ =
      let e : suc k + 1 ≡ suc (k + 1) = omega arith in
      over_tail s rest k
      (needs (suc k) (omega (arith, lt)) (subst (λ (n : ℕ). join_same batch (get_or (s ∷ rest) (suc k) []) (get_or (s ∷ rest) n []) ≡ false) (sym e)
      differ))

  -- ---- changes

  abbrev Fills : List ℕ → Type 0
  Fills s = (0 < length s) × All (λ t. t < length batch) s

  one_worth : IsBatch batch → (s : List ℕ) (rest : List (List ℕ)) → Fills s → 0 < worth (s ∷ rest)
  one_worth fits s rest fills =
      let t = get_or s 0 0 in
      elim (slice_get_cases batch t).1 [
        | inl q ↦
            let low = modules_of batch t q.0 q.2 fits in
            let here : are_partners (members batch s) q.0.initiator q.0.responder ≡ true = pair_stands batch s t q.0 (Contains-get_or s 0 0 fills.0) q.2 in
            let one : pair_at (s ∷ rest) q.0.initiator q.0.responder ≡ 1 = rw here refl in
            omega (
              arith,
              one,
              at_most_sum MAX_MODULES q.0.responder (pair_at (s ∷ rest) q.0.initiator) low.1,
              at_most_sum MAX_MODULES q.0.initiator
                  (row_of (s ∷ rest)) low.0,
            )
        | inr q ↦ absurd (omega (arith, q.0, fills.1 0 0 fills.0))
      ]

  after_few : IsBatch batch → (before : List ℕ) (rest : List (List ℕ)) → AllByRecursion Fills (before ∷ rest) → ChangesAtNeed batch (before ∷ rest)
      → changes_after batch before rest < worth (before ∷ rest)
  after_few fits before [] fill needs = one_worth fits before [] fill.0
  after_few fits before (s ∷ rest) fill needs =
      let later = after_few fits s rest fill.1 (needs_tail before (s ∷ rest) needs) in
      elim (cases_Bool (join_same batch before s)) [
        | inl same ↦ rw same (omega (arith, later, worth_more before (s ∷ rest)))
        | inr differ ↦ rw differ (omega (arith, later, over_less fits before (s ∷ rest) (omega arith) (needs 0 (omega arith) differ)))
      ]

  -- ---- at most what is in use

  joins_any : (settings : List (List ℕ)) (u v : ℕ) → joins settings u v ≡ true → (t : ℕ) × (x : Transfer) × (slice_get batch t ≡ Some x)
      × ((x.initiator == u && x.responder == v) ≡ true)
  joins_any settings u v any =
      let one = Any-from_list_any (λ s. are_partners (members batch s) u v) settings any in
      let m = any_member batch one.1 (λ x. x.initiator == u && x.responder == v) one.4 in
      (m.0, m.1, m.3, m.4)

  pair_used : (settings : List (List ℕ)) (u v : ℕ) → pair_at settings u v ≤ bit (list_any (joins_to (link_of Zero u) v) batch)
  pair_used settings u v = elim (cases_Bool (joins settings u v)) [
    | inl t ↦ let one = joins_any settings u v t in rw (t, any_in (joins_to (link_of Zero u) v) batch one.0 one.1 one.2 one.3) (omega arith)
    | inr f ↦ rw f (omega arith)
  ]

  row_used : (settings : List (List ℕ)) (u : ℕ) → row_of settings u ≤ partners batch (link_of Zero u)
  unfolding partners
  row_used settings u = omega (
    arith,
    sum_most MAX_MODULES (pair_at settings u) (λ v. bit (list_any (joins_to (link_of Zero u) v) batch))
        (λ v v_in. pair_used settings u v),
    count_is_sum MAX_MODULES (λ v. list_any (joins_to (link_of Zero u) v) batch),
  )

  worth_most : (settings : List (List ℕ)) → worth settings ≤ most_changes batch
  worth_most settings =
      let links = λ (end : End). sum_most MAX_MODULES (idle_at settings end) (in_use batch end) (λ m lt. grind (arith, nat_tests)) in
      omega (arith, sum_most MAX_MODULES (row_of settings) (λ u. partners batch (link_of Zero u)) (λ u lt. row_used settings u), links Zero, links Three)

-- a schedule that changes at need, none of whose settings is empty
pub few_needs : (batch : List Transfer) (settings : List (List ℕ)) → IsBatch batch → IsScheduleOf batch settings → All (λ setting. 0 < length setting) settings
    → ChangesAtNeed batch settings → changes batch settings ≤ most_changes batch
few_needs batch [] fits schedule filled needs = omega arith
few_needs batch (s ∷ rest) fits schedule filled needs =
    let both : AllByRecursion (Fills batch) (s ∷ rest) = recursion_from_All (Fills batch) (s ∷ rest) (λ k d lt. (filled k d lt, schedule.no_other k d lt)) in
    omega (arith, after_few batch fits s rest both needs, worth_most batch (s ∷ rest))
