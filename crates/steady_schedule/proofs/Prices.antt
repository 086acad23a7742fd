-- What prices show: over the steps of a schedule, each of which has each link with one partner, or
-- idle.
use Rattle.std.proofs.Common.{◌≡◌, ℕ, zero, suc, ◌+◌, ◌-◌, ◌*◌, ◌/◌, ◌<◌, ◌≤◌, List, [], ◌∷◌, length, All, Bool, true, cond, refl, sym, ap, subst, ◌∙◌, inl, inr, add-one, zero-add, arith}
use Rattle.std.specs.Prelude.{nat_lt, sum_by}
use Rattle.std.specs.List.{AllByRecursion}
use Rattle.std.proofs.lemmas.Bool.{cases_Bool, cases_lt, lt-ltb, le-ltb}
use Rattle.std.proofs.lemmas.List.Elements.{All-head, All-tail, All-nil, All-cons}
use Rattle.std.proofs.lemmas.List.Sums.{sum_by-cons}
use Rattle.batch.specs.Batches.{IsBatch}
use Rattle.batch.specs.declared.limits.TheConstants.{MAX_MODULES}
use Rattle.batch.specs.declared.transfer.Transfer.{Transfer}
use Rattle.link_graph.specs.declared.limits.TheConstants.{LINKS}
use Rattle.link_graph.specs.declared.link.End.{End}
use Rattle.link_graph.specs.declared.link.End.TheVariants.{Zero, Three}
use Rattle.link_graph.specs.declared.link.Link.{Link}
use Rattle.link_graph.specs.Counts.{uses}
use Rattle.link_graph.specs.Links.{index_by}
use Rattle.link_graph.specs.Marks.{members}
use Rattle.link_graph.specs.Schedules.{IsScheduleOf}
use Rattle.link_graph.specs.Uses.{IsMatching}
use Rattle.link_graph.proofs.Users.{made}
use Rattle.link_graph.proofs.Sums.{each}
use Rattle.steady_schedule.specs.Changes.{join_same, changes}
use Rattle.steady_schedule.specs.Prices.{AreNeeded, LimitsSteps, CostsAtLeast, SCALE, price_at, price_for, AreFair, number_for, NoneCostsMore, ShowChanges}
use Rattle.steady_schedule.specs.Waiting.{sum_below, count_at, count_between, waiting, ArePairCounts, HaveMost}
use Rattle.link_graph.proofs.Sums.{sum_same as sum_equal}
use Rattle.steady_schedule.proofs.StepSums.{swap_below}
use Rattle.steady_schedule.proofs.Runs.{Step, steps_from, steps_of, many_steps, has, step_numbers, each_now, number_low, number_idle, at_link, shared}
use Rattle.steady_schedule.proofs.Sums.{only, only_few, split_only, sum_none, sum_same, sum_both, sum_swap, sum_more, sum_zero, at_most_sum}
use Rattle.steady_schedule.proofs.Waiting.{all_low, waiting_uses}

-- ---- making up numbers

abbrev IsLength : ℕ → ℕ → Type 0
IsLength top k = (0 < k) × (k ≤ top)

made_of : (costs price : ℕ → ℕ) (top most : ℕ) → costs 0 ≡ 0 → ((v k : ℕ) → 0 < k → k ≤ top → v + k ≤ most → costs (v + k) ≤ costs v + price k)
    → (lengths : List ℕ) → All (IsLength top) lengths → sum_by (λ k. k) lengths ≤ most → costs (sum_by (λ k. k) lengths) ≤ sum_by price lengths
made_of costs price top most none more [] all few = omega (arith, none)
made_of costs price top most none more (k ∷ ks) all few =
    let head = All-head (IsLength top) k ks all in
    let split = sum_by-cons (λ n. n) k ks in
    let turned : sum_by (λ n. n) (k ∷ ks) ≡ sum_by (λ n. n) ks + k = omega (arith, split) in
    let rest = made_of costs price top most none more ks (All-tail (IsLength top) k ks all) (omega (arith, few, split)) in
    omega (arith, ap costs turned, more (sum_by (λ n. n) ks) k head.0 head.1 (omega (arith, few, split)), rest, sum_by-cons price k ks)

pub made_up : (costs price : ℕ → ℕ) (top most : ℕ) → costs 0 ≡ 0 → ((v k : ℕ) → 0 < k → k ≤ top → v + k ≤ most → costs (v + k) ≤ costs v + price k)
    → CostsAtLeast price top most (costs most)
made_up costs price top most none more lengths all is = omega (arith, ap costs is, made_of costs price top most none more lengths all (omega (arith, is)))

-- two numbers, of which the smaller one is a length, are as cheap as a number and a length
pub split_more : (costs price : ℕ → ℕ) (top n cost : ℕ) → costs 0 ≡ 0 → ((v k : ℕ) → 0 < k → k ≤ top → v + k < n → costs (v + k) ≤ costs v + price k)
    → (n ≤ top → cost ≤ price n) → ((k : ℕ) → 0 < k → k ≤ top → k + k ≤ n → cost ≤ costs k + costs (n - k))
    → (v k : ℕ) → 0 < k → k ≤ top → v + k ≡ n → cost ≤ costs v + price k
split_more costs price top n cost none more one two v k some few is = elim (cases_lt 0 v) [
  | inr v_none ↦
      let whole : k ≡ n = omega (arith, is, v_none) in
      omega (arith, one (omega (arith, whole, few)), ap price whole)
  | inl v_some ↦
      let piece : costs k ≤ price k = omega (arith, ap costs (zero-add k), none, more 0 k some few (omega (arith, is, v_some, zero-add k))) in
      elim (cases_lt v k) [
        | inl v_less ↦
            let rest : n - v ≡ k = omega (arith, is) in
            omega (arith, two v v_some (omega (arith, v_less, few)) (omega (arith, is, v_less)), ap costs rest, piece)
        | inr k_few ↦
            let rest : n - k ≡ v = omega (arith, is) in
            omega (arith, two k some few (omega (arith, is, k_few)), ap costs rest, piece)
      ]
]

same_sum : (f g : ℕ → ℕ) (top : ℕ) → ((k : ℕ) → 0 < k → k ≤ top → f k ≡ g k) → (lengths : List ℕ) → All (IsLength top) lengths → sum_by f lengths
    ≡ sum_by g lengths
same_sum f g top same [] all = refl
same_sum f g top same (k ∷ ks) all =
    let head = All-head (IsLength top) k ks all in
    omega (arith, sum_by-cons f k ks, sum_by-cons g k ks, same k head.0 head.1, same_sum f g top same ks (All-tail (IsLength top) k ks all))

pub same_prices : (f g : ℕ → ℕ) (top number cost : ℕ) → ((k : ℕ) → 0 < k → k ≤ top → f k ≡ g k) → CostsAtLeast f top number cost
    → CostsAtLeast g top number cost
same_prices f g top number cost same cheap lengths all is = omega (arith, cheap lengths all is, same_sum f g top same lengths all)

-- ---- fair prices

pub price_low : (prices : List ℕ) (top l k : ℕ) → AreFair prices top → l < LINKS → 0 < k → k ≤ top → price_at prices l k ≤ SCALE
price_low prices top l k fair l_in some few = omega (arith, at_most_sum LINKS l (λ i. price_at prices i k) l_in, fair.each k some few)

side_low : (prices : List ℕ) (top m l k : ℕ) → AreFair prices top → (m < MAX_MODULES → l < LINKS) → 0 < k → k ≤ top
    → cond (nat_lt m MAX_MODULES) (price_at prices l k) 0 ≤ SCALE
side_low prices top m l k fair l_in some few = elim (cases_lt m MAX_MODULES) [
  | inl lt ↦ rw (lt-ltb m MAX_MODULES lt) (price_low prices top l k fair (l_in lt) some few)
  | inr le ↦ rw (le-ltb m MAX_MODULES le) (omega arith)
]

pub both_low : (prices : List ℕ) (top u v k : ℕ) → AreFair prices top → 0 < k → k ≤ top → price_for prices u v k ≤ 131072
both_low prices top u v k fair some few = omega (
  arith,
  side_low prices top u u k fair (λ lt. omega (arith, lt)) some few,
  side_low prices top v (MAX_MODULES + v) k fair (λ lt. omega (arith, lt)) some few,
)

-- ---- steps that make up a number

-- the lengths of the steps for which a test holds
abbrev kept : {J : Type 0} → (J → Bool) → (J → ℕ) → List J → List ℕ
kept b s [] = []
kept b s (j ∷ js) = cond (b j) (s j ∷ kept b s js) (kept b s js)

kept_sum : {J : Type 0} (b : J → Bool) (s : J → ℕ) (f : ℕ → ℕ) (js : List J) → sum_by f (kept b s js) ≡ sum_by (λ j. only (b j) (f (s j))) js
kept_sum b s f [] = refl
kept_sum b s f (j ∷ js) = elim (cases_Bool (b j)) [
  | inl t ↦
      let here : kept b s (j ∷ js) ≡ s j ∷ kept b s js = rw t refl in
      omega (
        arith,
        ap (sum_by f) here,
        sum_by-cons f (s j) (kept b s js),
        sum_by-cons (λ j. only (b j) (f (s j))) j js,
        ap (λ (x : Bool). only x (f (s j))) t,
        kept_sum b s f js,
      )
  | inr t ↦
      let here : kept b s (j ∷ js) ≡ kept b s js = rw t refl in
      omega (arith, ap (sum_by f) here, sum_by-cons (λ j. only (b j) (f (s j))) j js, ap (λ (x : Bool). only x (f (s j))) t, kept_sum b s f js)
]

kept_all : {J : Type 0} (b : J → Bool) (s : J → ℕ) (top : ℕ) (js : List J) → AllByRecursion (λ j. IsLength top (s j)) js → All (IsLength top) (kept b s js)
kept_all b s top [] all = All-nil (IsLength top)
kept_all b s top (j ∷ js) all = elim (cases_Bool (b j)) [
  | inl t ↦ rw t (All-cons (IsLength top) (s j) (kept b s js) all.0 (kept_all b s top js all.1))
  | inr t ↦ rw t (kept_all b s top js all.1)
]

-- so what a number costs is at most what the steps pay that make it up
paid_by : {J : Type 0} (b : J → Bool) (s : J → ℕ) (price : ℕ → ℕ) (top number cost : ℕ) (js : List J) → AllByRecursion (λ j. IsLength top (s j)) js
    → sum_by (λ j. only (b j) (s j)) js ≡ number → CostsAtLeast price top number cost → cost ≤ sum_by (λ j. only (b j) (price (s j))) js
paid_by b s price top number cost js all is cheap = omega (
  arith,
  cheap (kept b s js) (kept_all b s top js all) (kept_sum b s (λ k. k) js ∙ is),
  kept_sum b s price js,
)

-- ---- one of some places

none_spread : (n : ℕ) (b : ℕ → Bool) (k : ℕ) → sum_below n (λ m. only (b m) 1) ≡ 0 → sum_below n (λ m. only (b m) k) ≡ 0
unfolding sum_below
none_spread zero b k none = refl
none_spread (suc n) b k none = elim (cases_Bool (b n)) [
  | inl t ↦ absurd (omega (arith, none, ap (λ (x : Bool). only x 1) t))
  | inr f ↦ omega (arith, ap (λ (x : Bool). only x k) f, none_spread n b k (omega (arith, none)))
]

one_spread : (n : ℕ) (b : ℕ → Bool) (k : ℕ) → sum_below n (λ m. only (b m) 1) ≡ 1 → sum_below n (λ m. only (b m) k) ≡ k
unfolding sum_below
one_spread zero b k one = absurd (omega (arith, one))
one_spread (suc n) b k one = elim (cases_Bool (b n)) [
  | inl t ↦ omega (arith, ap (λ (x : Bool). only x k) t, none_spread n b k (omega (arith, one, ap (λ (x : Bool). only x 1) t)))
  | inr f ↦ omega (arith, ap (λ (x : Bool). only x k) f, one_spread n b k (omega (arith, one, ap (λ (x : Bool). only x 1) f)))
]

-- the places that are taken: one of them, or else they cost nothing
each_side : (n : ℕ) (b c : ℕ → Bool) (x : ℕ) → ((m : ℕ) → m < n → b m ≡ c m) → sum_below n (λ m. only (c m) 1) ≡ 1 → sum_below n (λ m. only (b m) x) ≡ x
each_side n b c x same one = sum_same n (λ m. only (b m) x) (λ m. only (c m) x) (λ m lt. ap (λ (t : Bool). only t x) (same m lt)) ∙ one_spread n c x one

none_side : (n : ℕ) (b : ℕ → Bool) (x : ℕ) → x ≡ 0 → sum_below n (λ m. only (b m) x) ≡ x
none_side n b x none = sum_same n (λ m. only (b m) x) (λ m. 0) (λ m lt. omega (arith, only_few (b m) x, none)) ∙ (sum_none n ∙ sym none)

all_few : {J : Type 0} (f : J → ℕ) (scale : ℕ) (js : List J) → AllByRecursion (λ j. f j ≤ scale) js → sum_by f js ≤ length js * scale
all_few f scale [] all = omega arith
all_few f scale (j ∷ js) all = omega (arith, sum_by-cons f j js, all.0, all_few f scale js all.1)

-- ---- steps

module _ {J : Type 0} (n : ℕ) (s : J → ℕ) (pair : J → ℕ → ℕ → Bool) (p q : ℕ → ℕ → ℕ) (scale top : ℕ)
    (few : (k : ℕ) → 0 < k → k ≤ top → sum_below n (λ u. p u k) + sum_below n (λ v. q v k) ≤ scale) where
  abbrev pub IsPaid : J → Type 0
  IsPaid j = IsLength top (s j)
      × ((u : ℕ) → u < n → sum_below n (λ v. only (pair j u v) (p u (s j))) ≡ p u (s j))
      × ((v : ℕ) → v < n → sum_below n (λ u. only (pair j u v) (q v (s j))) ≡ q v (s j))

  -- what a step costs
  abbrev pub pair_price : J → ℕ → ℕ → ℕ
  pair_price j u v = only (pair j u v) (p u (s j) + q v (s j))

  pair_parts : (j : J) → sum_below n (λ u. sum_below n (pair_price j u)) ≡ sum_below n (λ u. sum_below n (λ v. only (pair j u v) (p u (s j)))) + sum_below n
      (λ v. sum_below n (λ u. only (pair j u v) (q v (s j))))
  pair_parts j =
      let inside = sum_same n (λ u. sum_below n (pair_price j u))
      (λ u. sum_below n (λ v. only (pair j u v) (p u (s j))) + sum_below n (λ v. only (pair j u v) (q v (s j)))) (λ u lt.
      sum_same n (pair_price j u) (λ v. only (pair j u v) (p u (s j)) + only (pair j u v) (q v (s j)))
      (λ v v_in. split_only (pair j u v) (p u (s j)) (q v (s j)))
      ∙ sum_both n (λ v. only (pair j u v) (p u (s j))) (λ v. only (pair j u v) (q v (s j)))) in
      let both = sum_both n (λ u. sum_below n (λ v. only (pair j u v) (p u (s j)))) (λ u. sum_below n (λ v. only (pair j u v) (q v (s j)))) in
      omega (arith, inside, both, sum_swap n n (λ u v. only (pair j u v) (q v (s j))))

  step_few : (j : J) → IsPaid j → sum_below n (λ u. sum_below n (pair_price j u)) ≤ scale
  step_few j is =
      let rows = sum_same n (λ u. sum_below n (λ v. only (pair j u v) (p u (s j)))) (λ u. p u (s j)) is.1 in
      let columns = sum_same n (λ v. sum_below n (λ u. only (pair j u v) (q v (s j)))) (λ v. q v (s j)) is.2 in
      omega (arith, pair_parts j, rows, columns, few (s j) is.0.0 is.0.1)

  -- all steps cost no more than the scale for each
  pub paid_few : (js : List J) → AllByRecursion IsPaid js → sum_below n (λ u. sum_below n (λ v. sum_by (λ j. pair_price j u v) js)) ≤ length js * scale
  paid_few js all =
      let inside = sum_same n (λ u. sum_below n (λ v. sum_by (λ j. pair_price j u v) js)) (λ u. sum_by (λ j. sum_below n (pair_price j u)) js)
      (λ u lt. swap_below n (λ j. pair_price j u) js) in
      let steps_few = each IsPaid (λ j. sum_below n (λ u. sum_below n (pair_price j u)) ≤ scale) step_few js all in
      omega (
        arith,
        inside,
        swap_below n (λ j u. sum_below n (pair_price j u)) js,
        all_few (λ j. sum_below n (λ u. sum_below n (pair_price j u))) scale js
            steps_few,
      )

-- ---- the steps of a schedule

some_place : (n : ℕ) (b : ℕ → Bool) → sum_below n (λ m. only (b m) 1) ≡ 1 → (m : ℕ) × (m < n) × (b m ≡ true)
unfolding sum_below
some_place zero b one = absurd (omega (arith, one))
some_place (suc n) b one = elim (cases_Bool (b n)) [
  | inl t ↦ (n, omega arith, t)
  | inr f ↦ let rest = some_place n b (omega (arith, one, ap (λ (x : Bool). only x 1) f)) in (rest.0, omega (arith, rest.1), rest.2)
]

-- what a step has of a number is at most what all have
each_few : {J : Type 0} (f : J → ℕ → ℕ) (n top : ℕ) (js : List J) → ((m : ℕ) → m < n → sum_by (λ j. f j m) js ≤ top)
    → AllByRecursion (λ j. (m : ℕ) → m < n → f j m ≤ top) js
each_few f n top [] le = tt
each_few f n top (j ∷ js) le =
    ((λ m lt. omega (arith, sum_by-cons (λ i. f i m) j js, le m lt)), each_few f n top js (λ m lt. omega (arith, sum_by-cons (λ i. f i m) j js, le m lt)))

both_all : {J : Type 0} (P Q R : J → Type 0) → ((j : J) → P j → Q j → R j) → (js : List J) → AllByRecursion P js → AllByRecursion Q js → AllByRecursion R js
both_all P Q R g [] ps qs = tt
both_all P Q R g (j ∷ js) ps qs = (g j ps.0 qs.0, both_all P Q R g js ps.1 qs.1)

abbrev IsStepIn : List Transfer → Step → Type 0
IsStepIn batch j = (0 < j.settings) × IsMatching batch j.setting

steps_in : (batch : List Transfer) (before : List ℕ) (k : ℕ) (rest : List (List ℕ)) → 0 < k → IsMatching batch before → All (IsMatching batch) rest
    → AllByRecursion (IsStepIn batch) (steps_from batch before k rest)
steps_in batch before k [] some is all = ((some, is), tt)
steps_in batch before k (x ∷ rest) some is all =
    let x_is = All-head (IsMatching batch) x rest all in
    let rest_are = All-tail (IsMatching batch) x rest all in
    elim (cases_Bool (join_same batch before x)) [
      | inl t ↦ rw t (steps_in batch x (k + 1) rest (omega arith) x_is rest_are)
      | inr f ↦ rw f ((some, is), steps_in batch x 1 rest (omega arith) x_is rest_are)
    ]

all_in : (batch : List Transfer) (settings : List (List ℕ)) → All (IsMatching batch) settings → AllByRecursion (IsStepIn batch) (steps_of batch settings)
all_in batch [] all = tt
all_in batch (x ∷ rest) all = steps_in batch x 1 rest (omega arith) (All-head (IsMatching batch) x rest all) (All-tail (IsMatching batch) x rest all)

rounded : (n c : ℕ) → n ≤ c * SCALE → (n + 65535) / 65536 ≤ c
rounded n c few = omega (arith, few)

-- the prices of all links, of links 0 and of links 3
split_sum : (n m : ℕ) (f : ℕ → ℕ) → sum_below (n + m) f ≡ sum_below n f + sum_below m (λ i. f (n + i))
split_sum n zero f =
    let same : n + 0 ≡ n = omega arith in
    omega (arith, ap (λ (k : ℕ). sum_below k f) same, sum_zero (λ i. f (n + i)))
split_sum n (suc m) f =
    let same : n + suc m ≡ n + m + 1 = omega arith in
    omega (
      arith,
      ap (λ (k : ℕ). sum_below k f) same,
      sum_more (n + m) f,
      ap (λ (k : ℕ). sum_below k (λ i. f (n + i))) (add-one m),
      sum_more m (λ i. f (n + i)),
      split_sum n m f,
    )

-- the price of a link for a length; none after all modules
abbrev side_price : List ℕ → End → ℕ → ℕ → ℕ
side_price prices end m k = cond (nat_lt m MAX_MODULES) (price_at prices (index_by end m) k) 0

side_none : (prices : List ℕ) (end : End) (m k : ℕ) → MAX_MODULES ≤ m → side_price prices end m k ≡ 0
side_none prices end m k le = rw (le-ltb m MAX_MODULES le) refl

-- what is made up by a pair, by a link 0 that is idle, and by such a link 3
number_pair : (counts : List ℕ) (n u v : ℕ) → u < MAX_MODULES → v < MAX_MODULES → number_for counts n u v ≡ count_at counts u v
number_pair counts n u v u_in v_in = rw (lt-ltb u MAX_MODULES u_in, lt-ltb v MAX_MODULES v_in) refl

number_zero : (counts : List ℕ) (n u v : ℕ) → u < MAX_MODULES → MAX_MODULES ≤ v → number_for counts n u v ≡ n - waiting counts Zero u
number_zero counts n u v u_in le = rw (lt-ltb u MAX_MODULES u_in, le-ltb v MAX_MODULES le) refl

number_three : (counts : List ℕ) (n u v : ℕ) → MAX_MODULES ≤ u → v < MAX_MODULES → number_for counts n u v ≡ n - waiting counts Three v
number_three counts n u v le v_in = rw (le-ltb u MAX_MODULES le, lt-ltb v MAX_MODULES v_in) refl

module _ (batch : List Transfer) (fits : IsBatch batch) where
  -- whether a step joins a pair; or where the one or the other place is after all modules, whether
  -- it leaves the link idle
  abbrev joined : Step → ℕ → ℕ → Bool
  joined j u v = cond (nat_lt u MAX_MODULES) (has batch fits (made Zero u) j v) (has batch fits (made Three v) j MAX_MODULES)

  joined_low : (j : Step) (u v : ℕ) → u < MAX_MODULES → joined j u v ≡ has batch fits (made Zero u) j v
  joined_low j u v u_in = rw (lt-ltb u MAX_MODULES u_in) refl

  joined_high : (j : Step) (u v : ℕ) → MAX_MODULES ≤ u → joined j u v ≡ has batch fits (made Three v) j MAX_MODULES
  joined_high j u v le = rw (le-ltb u MAX_MODULES le) refl

  turned_about : (j : Step) (u v : ℕ) → u < MAX_MODULES → v < MAX_MODULES → has batch fits (made Zero u) j v ≡ has batch fits (made Three v) j u
  turned_about j u v u_in v_in = ap (nat_lt 0) (number_low (members batch j.setting) 1 (made Zero u) v v_in
      ∙ (sym (at_link (members batch j.setting) Three v u) ∙ sym (number_low (members batch j.setting) 1 (made Three v) u u_in)))

  joined_three : (j : Step) (u v : ℕ) → u < MAX_MODULES + 1 → v < MAX_MODULES → joined j u v ≡ has batch fits (made Three v) j u
  joined_three j u v u_few v_in = elim (cases_lt u MAX_MODULES) [
    | inl u_in ↦ joined_low j u v u_in ∙ turned_about j u v u_in v_in
    | inr le ↦ joined_high j u v le ∙ ap (has batch fits (made Three v) j) {x = MAX_MODULES} {y = u} (omega (arith, u_few, le))
  ]

  each_row : (prices : List ℕ) (k : ℕ) (j : Step) → IsMatching batch j.setting → (u : ℕ)
      → sum_below (MAX_MODULES + 1) (λ v. only (joined j u v) (side_price prices Zero u k)) ≡ side_price prices Zero u k
  each_row prices k j is u = elim (cases_lt u MAX_MODULES) [
    | inl u_in ↦ each_side (MAX_MODULES + 1) (joined j u) (has batch fits (made Zero u) j) (side_price prices Zero u k) (λ v lt. joined_low j u v u_in)
        (each_now batch fits (made Zero u) j.setting is)
    | inr le ↦ none_side (MAX_MODULES + 1) (joined j u) (side_price prices Zero u k) (side_none prices Zero u k le)
  ]

  each_column : (prices : List ℕ) (k : ℕ) (j : Step) → IsMatching batch j.setting → (v : ℕ)
      → sum_below (MAX_MODULES + 1) (λ u. only (joined j u v) (side_price prices Three v k)) ≡ side_price prices Three v k
  each_column prices k j is v = elim (cases_lt v MAX_MODULES) [
    | inl v_in ↦ each_side (MAX_MODULES + 1) (λ u. joined j u v) (has batch fits (made Three v) j) (side_price prices Three v k)
        (λ u lt. joined_three j u v lt v_in) (each_now batch fits (made Three v) j.setting is)
    | inr le ↦ none_side (MAX_MODULES + 1) (λ u. joined j u v) (side_price prices Three v k) (side_none prices Three v k le)
  ]

  module _ (settings : List (List ℕ)) (schedule : IsScheduleOf batch settings) (counts : List ℕ) (counted : ArePairCounts batch counts) (top : ℕ) where
    abbrev js : List Step
    js = steps_of batch settings

    -- how long all steps together have a number of a link
    abbrev taken : Link → Step → ℕ → ℕ
    taken link j m = only (has batch fits link j m) j.settings

    shared_is : (end : End) (x m : ℕ) → x < MAX_MODULES → m < MAX_MODULES → shared batch (made end x) m ≡ count_between counts end x m
    shared_is Zero x m x_in m_in = sym (counted.at x m x_in m_in)
    shared_is Three x m x_in m_in = at_link batch Three x m ∙ sym (counted.at m x m_in x_in)

    uses_is : (end : End) (x : ℕ) → x < MAX_MODULES → waiting counts end x ≡ uses batch (made end x)
    uses_is end x x_in = waiting_uses batch counts end x counted (all_low batch fits) x_in

    module _ (link : Link) (longest : LimitsSteps counts (length settings) link top) where
      few_in : (m : ℕ) → m < MAX_MODULES + 1 → sum_by (λ j. taken link j m) js ≤ top
      few_in m lt = elim (cases_lt m MAX_MODULES) [
        | inl low ↦ omega (
          arith,
          step_numbers batch fits link settings schedule m lt,
          number_low batch (length settings) link m low,
          shared_is link.end link.«module» m longest.low low,
          longest.most m low,
        )
        | inr le ↦ omega (
          arith,
          step_numbers batch fits link settings schedule m lt,
          number_idle batch (length settings) link m le,
          longest.full,
          uses_is link.end link.«module» longest.low,
        )
      ]

      -- no step is longer: the link is in it, with one partner
      step_top : (j : Step) → IsMatching batch j.setting → ((m : ℕ) → m < MAX_MODULES + 1 → taken link j m ≤ top) → j.settings ≤ top
      step_top j is le =
          let place = some_place (MAX_MODULES + 1) (has batch fits link j) (each_now batch fits link j.setting is) in
          omega (arith, le place.0 place.1, ap (λ (b : Bool). only b j.settings) place.2)

      module _ (prices : List ℕ) (fair : AreFair prices top) where
        few_side : (end : End) (k : ℕ) → sum_below (MAX_MODULES + 1) (λ m. side_price prices end m k)
            ≡ sum_below MAX_MODULES (λ m. price_at prices (index_by end m) k)
        few_side end k = omega (
          arith,
          sum_more MAX_MODULES (λ m. side_price prices end m k),
          sum_same MAX_MODULES (λ m. side_price prices end m k)
              (λ m. price_at prices (index_by end m) k) (λ m lt. rw (lt-ltb m MAX_MODULES lt) refl),
        )

        few_prices : (k : ℕ) → 0 < k → k ≤ top → sum_below (MAX_MODULES + 1) (λ u. side_price prices Zero u k) + sum_below (MAX_MODULES + 1)
            (λ v. side_price prices Three v k) ≤ SCALE
        few_prices k some few =
            omega (arith, fair.each k some few, few_side Zero k, few_side Three k, split_sum MAX_MODULES MAX_MODULES (λ l. price_at prices l k))

        abbrev IsPaidStep : Step → Type 0
        IsPaidStep = IsPaid (MAX_MODULES + 1) (λ j. j.settings) joined (side_price prices Zero) (side_price prices Three) SCALE top few_prices

        all_paid : AllByRecursion IsPaidStep js
        all_paid = both_all (IsStepIn batch) (λ j. (m : ℕ) → m < MAX_MODULES + 1 → taken link j m ≤ top) IsPaidStep (λ j is le.
            ((is.0, step_top j is.1 le), (λ u u_in. each_row prices j.settings j is.1 u), (λ v v_in. each_column prices j.settings j is.1 v))) js
            (all_in batch settings schedule.matchings) (each_few (taken link) (MAX_MODULES + 1) top js few_in)

        -- what the steps pay in which a pair is joined, or a link is idle
        abbrev pays : ℕ → ℕ → ℕ
        pays u v = sum_by (λ j. only (joined j u v) (price_for prices u v j.settings)) js

        long_idle : (end : End) (m : ℕ) → m < MAX_MODULES → sum_by (λ j. taken (made end m) j MAX_MODULES) js ≡ length settings - waiting counts end m
        long_idle end m m_in = omega (
          arith,
          step_numbers batch fits (made end m) settings schedule MAX_MODULES (omega arith),
          number_idle batch (length settings) (made end m) MAX_MODULES (omega arith),
          uses_is end m m_in,
        )

        -- how long all steps together join a pair, or leave a link idle
        abbrev long : ℕ → ℕ → ℕ
        long u v = sum_by (λ j. only (joined j u v) j.settings) js

        long_zero : (u v : ℕ) → u < MAX_MODULES → v ≤ MAX_MODULES → long u v ≡ number_for counts (length settings) u v
        long_zero u v u_in v_few =
            let same = sum_equal (λ j. only (joined j u v) j.settings) (λ j. taken (made Zero u) j v) js
            (λ j. ap (λ (b : Bool). only b j.settings) (joined_low j u v u_in)) in
            elim (cases_lt v MAX_MODULES) [
              | inl v_in ↦ omega (
                arith,
                same,
                step_numbers batch fits (made Zero u) settings schedule v (omega (arith, v_in)),
                number_low batch (length settings) (made Zero u) v v_in,
                shared_is Zero u v u_in v_in,
                number_pair counts (length settings) u v u_in v_in,
              )
              | inr le ↦ omega (
                arith,
                same,
                ap (λ (k : ℕ). sum_by (λ j. taken (made Zero u) j k) js) {x = v} {y = MAX_MODULES} (omega (arith, v_few, le)),
                long_idle Zero u u_in,
                number_zero counts (length settings) u v u_in le,
              )
            ]

        long_three : (u v : ℕ) → MAX_MODULES ≤ u → v < MAX_MODULES → long u v ≡ number_for counts (length settings) u v
        long_three u v le v_in = sum_equal (λ j. only (joined j u v) j.settings) (λ j. taken (made Three v) j MAX_MODULES) js
            (λ j. ap (λ (b : Bool). only b j.settings) (joined_high j u v le))
            ∙ (long_idle Three v v_in ∙ sym (number_three counts (length settings) u v le v_in))

        paid : NoneCostsMore counts (length settings) prices top pays
        paid u v cost u_few v_few cheap =
            let by = λ (all : long u v ≡ number_for counts (length settings) u v). paid_by (λ j. joined j u v) (λ j. j.settings) (price_for prices u v) top
            (number_for counts (length settings) u v) cost js (each IsPaidStep (λ j. IsLength top j.settings) (λ j is. is.0) js all_paid) all cheap in
            elim (cases_lt u MAX_MODULES) [
              | inl u_in ↦ by (long_zero u v u_in v_few)
              | inr le ↦ elim (cases_lt v MAX_MODULES) [
                | inl v_in ↦ by (long_three u v le v_in)
                | inr v_le ↦
                    let none : 0 ≡ number_for counts (length settings) u v = rw (le-ltb u MAX_MODULES le, le-ltb v MAX_MODULES v_le) refl in
                    omega (arith, cheap [] (All-nil (IsLength top)) none)
              ]
            ]

        -- so the prices show as many changes as make this up
        pub shown : (total : ℕ) → ((most : ℕ → ℕ → ℕ) → NoneCostsMore counts (length settings) prices top most → total ≤ sum_below (MAX_MODULES + 1)
            (λ u. sum_below (MAX_MODULES + 1) (most u)))
            → (total + 65535) / 65536 ≤ changes batch settings
        shown total few =
            let all = paid_few (MAX_MODULES + 1) (λ j. j.settings) joined (side_price prices Zero) (side_price prices Three) SCALE top few_prices js all_paid in
            rounded total (changes batch settings) (omega (arith, few pays paid, all, ap (λ (k : ℕ). k * SCALE) (many_steps batch settings)))

pub shown_needed : (batch : List Transfer) (fits : IsBatch batch) (counts : List ℕ) (counted : ArePairCounts batch counts) (settings top : ℕ) (link : Link)
    (longest : LimitsSteps counts settings link top) (prices : List ℕ) (fair : AreFair prices top) (total : ℕ)
    → ((most : ℕ → ℕ → ℕ) → NoneCostsMore counts settings prices top most → total ≤ sum_below (MAX_MODULES + 1) (λ u. sum_below (MAX_MODULES + 1) (most u)))
    → AreNeeded batch settings ((total + 65535) / 65536)
shown_needed batch fits counts counted settings top link longest prices fair total few schedule is same =
    shown batch fits schedule is counts counted top link (subst (λ (n : ℕ). LimitsSteps counts n link top) (sym same) longest) prices fair total
    (λ most costs. few most (subst (λ (n : ℕ). NoneCostsMore counts n prices top most) same costs))

-- the changes that a total shows cost less than it, but for the last one
pub last_change : (total sum : ℕ) → 0 < (total + 65535) / 65536 → total ≤ sum → ((total + 65535) / 65536 - 1) * SCALE < sum
last_change total sum some few = omega (arith, some, few)

-- so the changes that prices show are needed
pub needed_by : (batch : List Transfer) (settings : ℕ) (prices : List ℕ) (top count : ℕ) → IsBatch batch → ShowChanges batch settings prices top count
    → AreNeeded batch settings count
needed_by batch settings prices top count fits shows schedule is same = elim (cases_lt 0 count) [
  | inl some ↦
      let by = shows some in
      omega (
        arith,
        some,
        shown_needed batch fits by.counts by.counted settings top by.busiest by.longest prices by.fair ((count - 1) * SCALE + 1)
            (λ most costs. omega (arith, by.dear most costs)) schedule is same,
      )
  | inr none ↦ omega (arith, none)
]

-- no link has more that wait than a schedule has settings
pub most_wait : (batch : List Transfer) (counts : List ℕ) (most : ℕ) → IsBatch batch → ArePairCounts batch counts → ((link : Link) → uses batch link ≤ most)
    → HaveMost counts most
most_wait batch counts most fits counted few end m m_in = omega (arith, waiting_uses batch counts end m counted (all_low batch fits) m_in, few (made end m))
