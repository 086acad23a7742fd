-- The steps of a schedule: runs of settings that join the same pairs, so that each link has one
-- partner throughout, or is idle.
use Rattle.std.proofs.Common.{◌≡◌, ◌==◌, ℕ, zero, suc, ◌+◌, ◌-◌, ◌<◌, ◌≤◌, List, [], ◌∷◌, length, All, Bool, true, ◌&&◌, cond, refl, sym, ap, ◌∙◌, inl, inr, arith}
use Rattle.std.specs.Prelude.{count_by, nat_lt, sum_by}
use Rattle.std.specs.List.{list_any}
use Rattle.std.proofs.Math.Bool.{and_comm}
use Rattle.std.proofs.lemmas.Bool.{cases_Bool, cases_lt, lt-ltb, le-ltb, or_left}
use Rattle.std.proofs.lemmas.List.Elements.{All-head, All-tail, All-nil, All-cons}
use Rattle.std.proofs.lemmas.List.Sums.{sum_by-cons}
use Rattle.std.proofs.lemmas.Option.{slice_get_cases}
use Rattle.batch.specs.Batches.{IsBatch}
use Rattle.batch.specs.declared.limits.TheConstants.{MAX_MODULES}
use Rattle.batch.specs.declared.transfer.Transfer.{Transfer}
use Rattle.link_graph.specs.declared.link.End.{End}
use Rattle.link_graph.specs.declared.link.End.TheVariants.{Zero, Three}
use Rattle.link_graph.specs.declared.link.Link.{Link}
use Rattle.link_graph.specs.Counts.{module_at, uses}
use Rattle.link_graph.specs.Marks.{members}
use Rattle.link_graph.specs.Schedules.{IsScheduleOf}
use Rattle.link_graph.specs.Uses.{IsMatching}
use Rattle.link_graph.proofs.Sharing.{shared_from_count, shared_no_matching}
use Rattle.link_graph.proofs.Masks.{bit}
use Rattle.steady_schedule.specs.Changes.{join_same, changes_after, changes}
use Rattle.steady_schedule.specs.Partners.{joins_to}
use Rattle.steady_schedule.specs.Waiting.{sum_below}
use Rattle.link_graph.proofs.Sums.{sum_same as sum_equal}
use Rattle.link_graph.proofs.Tables.{modules_of}
use Rattle.steady_schedule.proofs.NeedChanges.{same_meets}
use Rattle.steady_schedule.proofs.Sums.{only, split_only, sum_same, sum_more, at_most_sum}
use Rattle.steady_schedule.proofs.Totals.{counted_once}
use Rattle.steady_schedule.proofs.Waiting.{IsLow, at_end, pair_uses}

-- ---- numbers of a link

-- how many transfers join the link to that of module m
abbrev pub shared : List Transfer → Link → ℕ → ℕ
shared batch link m = count_by (joins_to link m) batch

-- that; and after all modules, in how many of so many settings the link is idle
abbrev pub link_number : List Transfer → ℕ → Link → ℕ → ℕ
link_number batch settings link m = cond (nat_lt m MAX_MODULES) (shared batch link m) (settings - uses batch link)

pub at_link : (xs : List Transfer) (end : End) (x m : ℕ) → shared xs (record { end = end; «module» = x }) m ≡ at_end xs end x m
at_link xs Zero x m = refl
at_link xs Three x m = sum_equal (λ t. bit (t.responder == x && t.initiator == m)) (λ t. bit (t.initiator == m && t.responder == x)) xs
    (λ t. ap bit (and_comm (t.responder == x) (t.initiator == m)))

shared_uses : (xs : List Transfer) (link : Link) → All IsLow xs → sum_below MAX_MODULES (shared xs link) ≡ uses xs link
shared_uses xs link low = sum_same MAX_MODULES (shared xs link) (at_end xs link.end link.«module») (λ m lt. at_link xs link.end link.«module» m)
    ∙ pair_uses xs link.end link.«module» low

pub number_low : (xs : List Transfer) (n : ℕ) (link : Link) (m : ℕ) → m < MAX_MODULES → link_number xs n link m ≡ shared xs link m
number_low xs n link m lt = rw (lt-ltb m MAX_MODULES lt) refl

pub number_idle : (xs : List Transfer) (n : ℕ) (link : Link) (m : ℕ) → MAX_MODULES ≤ m → link_number xs n link m ≡ n - uses xs link
number_idle xs n link m le = rw (le-ltb m MAX_MODULES le) refl

-- a number that is at most 1
bit_number : (k : ℕ) → k ≤ 1 → only (nat_lt 0 k) 1 ≡ k
bit_number zero few = refl
bit_number (suc k) few = omega (arith, few, ap (λ (b : Bool). only b 1) (lt-ltb 0 (suc k) (omega arith)))

pub any_some : (p : Transfer → Bool) (xs : List Transfer) → nat_lt 0 (count_by p xs) ≡ list_any p xs
any_some p [] = refl
any_some p (x ∷ xs) = elim (cases_Bool (p x)) [
  | inl t ↦
      let some : nat_lt 0 (count_by p (x ∷ xs)) ≡ true = lt-ltb 0 (count_by p (x ∷ xs)) (omega (arith, sum_by-cons (λ y. bit (p y)) x xs, ap bit t)) in
      some ∙ sym (or_left (p x) (list_any p xs) t)
  | inr f ↦
      let same : count_by p (x ∷ xs) ≡ count_by p xs = omega (arith, sum_by-cons (λ y. bit (p y)) x xs, ap bit f) in
      let rest : list_any p (x ∷ xs) ≡ list_any p xs = rw f refl in
      ap (nat_lt 0) same ∙ (any_some p xs ∙ sym rest)
]

pub members_low : (batch : List Transfer) → IsBatch batch → (setting : List ℕ) → All IsLow (members batch setting)
members_low batch fits [] = All-nil IsLow
members_low batch fits (t ∷ ts) = elim (slice_get_cases batch t).1 [
  | inl q ↦ rw q.2 (All-cons IsLow q.0 (members batch ts) (modules_of batch t q.0 q.2 fits) (members_low batch fits ts))
  | inr q ↦ rw q.1 (members_low batch fits ts)
]

module _ (batch : List Transfer) (fits : IsBatch batch) (link : Link) where
  -- what a setting adds to the numbers
  abbrev pub now : List ℕ → ℕ → ℕ
  now setting = link_number (members batch setting) 1 link

  few_uses : (setting : List ℕ) → IsMatching batch setting → uses (members batch setting) link ≤ 1
  few_uses setting matching = elim (cases_lt 1 (uses (members batch setting) link)) [
    | inl many ↦ absurd (shared_no_matching batch setting link matching (shared_from_count batch setting link many))
    | inr few ↦ few
  ]

  all_now : (setting : List ℕ) → IsMatching batch setting → sum_below (MAX_MODULES + 1) (now setting) ≡ 1
  all_now setting matching =
      let xs : List Transfer = members batch setting in
      let low = sum_same MAX_MODULES (now setting) (shared xs link) (λ m lt. number_low xs 1 link m lt) in
      omega (
        arith,
        sum_more MAX_MODULES (now setting),
        low,
        shared_uses xs link (members_low batch fits setting),
        number_idle xs 1 link MAX_MODULES (omega arith),
        few_uses setting matching,
      )

  one_now : (setting : List ℕ) → IsMatching batch setting → (m : ℕ) → m < MAX_MODULES + 1 → only (nat_lt 0 (now setting m)) 1 ≡ now setting m
  one_now setting matching m lt = bit_number (now setting m) (omega (arith, at_most_sum (MAX_MODULES + 1) m (now setting) lt, all_now setting matching))

  pub each_now : (setting : List ℕ) → IsMatching batch setting → sum_below (MAX_MODULES + 1) (λ m. only (nat_lt 0 (now setting m)) 1) ≡ 1
  each_now setting matching = sum_same (MAX_MODULES + 1) (λ m. only (nat_lt 0 (now setting m)) 1) (now setting) (λ m lt. one_now setting matching m lt)
      ∙ all_now setting matching

  -- settings that join the same pairs add the same
  same_low : (one other : List ℕ) → join_same batch one other ≡ true → (m : ℕ) → m < MAX_MODULES → nat_lt 0 (now one m) ≡ nat_lt 0 (now other m)
  same_low one other same m lt =
      ap (nat_lt 0) (number_low (members batch one) 1 link m lt) ∙ any_some (joins_to link m) (members batch one)
      ∙ (same_meets link batch one other m same
      ∙ (sym (any_some (joins_to link m) (members batch other)) ∙ ap (nat_lt 0) (sym (number_low (members batch other) 1 link m lt))))

  same_idle : (one other : List ℕ) → IsMatching batch one → IsMatching batch other → join_same batch one other ≡ true → now one MAX_MODULES
      ≡ now other MAX_MODULES
  same_idle one other one_is other_is same =
      let rest = sum_same MAX_MODULES (now one) (now other) (λ m lt.
      sym (one_now one one_is m (omega (arith, lt)))
      ∙ (ap (λ (b : Bool). only b 1) (same_low one other same m lt) ∙ one_now other other_is m (omega (arith, lt)))) in
      omega (arith, sum_more MAX_MODULES (now one), sum_more MAX_MODULES (now other), all_now one one_is, all_now other other_is, rest)

  pub same_now : (one other : List ℕ) → IsMatching batch one → IsMatching batch other → join_same batch one other ≡ true → (m : ℕ) → m < MAX_MODULES + 1
      → nat_lt 0 (now one m) ≡ nat_lt 0 (now other m)
  same_now one other one_is other_is same m lt = elim (cases_lt m MAX_MODULES) [
    | inl low ↦ same_low one other same m low
    | inr le ↦
        let last : m ≡ MAX_MODULES = omega (arith, lt, le) in
        ap (λ (k : ℕ). nat_lt 0 (now one k)) last
        ∙ (ap (nat_lt 0) (same_idle one other one_is other_is same) ∙ ap (λ (k : ℕ). nat_lt 0 (now other k)) (sym last))
  ]

  -- ---- all settings

  sums_idle : (settings : List (List ℕ)) → All (IsMatching batch) settings → sum_by (λ setting. 1 - uses (members batch setting) link) settings + sum_by
      (λ setting. uses (members batch setting) link) settings ≡ length settings
  sums_idle [] all = refl
  sums_idle (s ∷ rest) all = omega (
    arith,
    sum_by-cons (λ setting. 1 - uses (members batch setting) link) s rest,
    sum_by-cons (λ setting. uses (members batch setting) link) s rest,
    few_uses s (All-head (IsMatching batch) s rest all),
    sums_idle rest (All-tail (IsMatching batch) s rest all),
  )

  pub all_numbers : (settings : List (List ℕ)) → IsScheduleOf batch settings → (m : ℕ) → sum_by (λ setting. now setting m) settings
      ≡ link_number batch (length settings) link m
  all_numbers settings schedule m = elim (cases_lt m MAX_MODULES) [
    | inl lt ↦
        sum_equal (λ setting. now setting m) (λ setting. shared (members batch setting) link m) settings
        (λ setting. number_low (members batch setting) 1 link m lt)
        ∙ (counted_once batch (joins_to link m) settings schedule ∙ sym (number_low batch (length settings) link m lt))
    | inr le ↦
        let idle = sum_equal (λ setting. now setting m) (λ setting. 1 - uses (members batch setting) link) settings
        (λ setting. number_idle (members batch setting) 1 link m le) in
        omega (
          arith,
          idle,
          sums_idle settings schedule.matchings,
          counted_once batch (λ x. module_at link.end x == link.«module») settings schedule,
          number_idle batch (length settings) link m le,
        )
  ]

-- ---- steps

pub record Step : Type 0 where
  pub setting : List ℕ
  pub settings : ℕ

abbrev pub steps_from : List Transfer → List ℕ → ℕ → List (List ℕ) → List Step
steps_from batch before k [] = record { setting = before; settings = k } ∷ []
steps_from batch before k (x ∷ rest) = cond (join_same batch before x) (steps_from batch x (k + 1) rest)
    (record { setting = before; settings = k } ∷ steps_from batch x 1 rest)

abbrev pub steps_of : List Transfer → List (List ℕ) → List Step
steps_of batch [] = []
steps_of batch (x ∷ rest) = steps_from batch x 1 rest

many_from : (batch : List Transfer) (before : List ℕ) (k : ℕ) (rest : List (List ℕ)) → length (steps_from batch before k rest)
    ≡ 1 + changes_after batch before rest
many_from batch before k [] = refl
many_from batch before k (x ∷ rest) = elim (cases_Bool (join_same batch before x)) [
  | inl t ↦ rw t (omega (arith, many_from batch x (k + 1) rest))
  | inr f ↦ rw f (omega (arith, many_from batch x 1 rest))
]

pub many_steps : (batch : List Transfer) (settings : List (List ℕ)) → length (steps_of batch settings) ≡ changes batch settings
many_steps batch [] = refl
many_steps batch (x ∷ rest) = many_from batch x 1 rest

module _ (batch : List Transfer) (fits : IsBatch batch) (link : Link) where
  abbrev pub has : Step → ℕ → Bool
  has j m = nat_lt 0 (now batch fits link j.setting m)

  long_from : (m : ℕ) → m < MAX_MODULES + 1 → (before : List ℕ) (k : ℕ) (rest : List (List ℕ)) → IsMatching batch before → All (IsMatching batch) rest
      → sum_by (λ j. only (has j m) j.settings) (steps_from batch before k rest) ≡ only (nat_lt 0 (now batch fits link before m)) k + sum_by
      (λ x. only (nat_lt 0 (now batch fits link x m)) 1) rest
  long_from m lt before k [] is all = omega arith
  long_from m lt before k (x ∷ rest) is all =
      let x_is = All-head (IsMatching batch) x rest all in
      let rest_are = All-tail (IsMatching batch) x rest all in
      let split = sum_by-cons (λ y. only (nat_lt 0 (now batch fits link y m)) 1) x rest in
      elim (cases_Bool (join_same batch before x)) [
        | inl t ↦ rw t (omega (
          arith,
          split,
          long_from m lt x (k + 1) rest x_is rest_are,
          split_only (nat_lt 0 (now batch fits link x m)) k 1,
          ap (λ (b : Bool). only b k) (same_now batch fits link before x is x_is t m lt),
        ))
        | inr f ↦ rw f
            (omega (
              arith,
              split,
              long_from m lt x 1 rest x_is rest_are,
              sum_by-cons (λ j. only (has j m) j.settings)
                  (record { setting = before; settings = k }) (steps_from batch x 1 rest),
            ))
      ]

  bits : (m : ℕ) → m < MAX_MODULES + 1 → (settings : List (List ℕ)) → All (IsMatching batch) settings
      → sum_by (λ x. only (nat_lt 0 (now batch fits link x m)) 1) settings ≡ sum_by (λ x. now batch fits link x m) settings
  bits m lt [] all = refl
  bits m lt (x ∷ rest) all = omega (
    arith,
    sum_by-cons (λ y. only (nat_lt 0 (now batch fits link y m)) 1) x rest,
    sum_by-cons (λ y. now batch fits link y m) x
        rest,
    one_now batch fits link x (All-head (IsMatching batch) x rest all) m lt,
    bits m lt rest (All-tail (IsMatching batch) x rest all),
  )

  long_steps : (settings : List (List ℕ)) → All (IsMatching batch) settings → (m : ℕ) → m < MAX_MODULES + 1 → sum_by (λ j. only (has j m) j.settings)
      (steps_of batch settings) ≡ sum_by (λ x. only (nat_lt 0 (now batch fits link x m)) 1) settings
  long_steps [] all m lt = refl
  long_steps (x ∷ rest) all m lt = long_from m lt x 1 rest (All-head (IsMatching batch) x rest all) (All-tail (IsMatching batch) x rest all)
      ∙ sym (sum_by-cons (λ y. only (nat_lt 0 (now batch fits link y m)) 1) x rest)

  pub step_numbers : (settings : List (List ℕ)) → IsScheduleOf batch settings → (m : ℕ) → m < MAX_MODULES + 1 → sum_by (λ j. only (has j m) j.settings)
      (steps_of batch settings) ≡ link_number batch (length settings) link m
  step_numbers settings schedule m lt = long_steps settings schedule.matchings m lt
      ∙ (bits m lt settings schedule.matchings ∙ all_numbers batch fits link settings schedule m)
