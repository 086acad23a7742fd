-- Counts of the pairs of links, and what stands beside them.
use Rattle.std.proofs.Common.{◌≡◌, ◌≢◌, ◌==◌, ℕ, ◌+◌, ◌*◌, ◌<◌, ◌≤◌, List, [], ◌∷◌, ◌++◌, length, get_or, set, take, replicate, Bool, true, false, ◌&&◌, ◌||◌, cond, All, refl, sym, ap, ◌∙◌, subst}
use Rattle.std.proofs.Common.{inl, inr, get_or-set_same, get_or-set_other, arith}
use Rattle.std.specs.Prelude.{nat_lt}
use Rattle.std.proofs.lemmas.Bool.{cases_eq, eq-eqb, lt-ltb, le-ltb}
use Rattle.std.proofs.lemmas.Bool.Decides.{nat_tests, eqb_tells}
use Rattle.std.proofs.lemmas.Grind.{elements}
use Rattle.std.proofs.lemmas.List.{length-set, set-get_or, length-replicate, get_or_past, length-take-le}
use Rattle.std.proofs.lemmas.List.Elements.{All-head, All-tail, All-take}
use Rattle.std.proofs.lemmas.List.Sums.{sum_by-cons, sum_by_push}
use Rattle.std.proofs.lemmas.Nat.{same_from_place}
use Rattle.batch.specs.Batches.{IsBatch}
use Rattle.batch.specs.declared.limits.TheConstants.{MAX_MODULES, MAX_TRANSFERS}
use Rattle.batch.specs.declared.transfer.Transfer.{Transfer}
use Rattle.link_graph.specs.declared.link.End.{End}
use Rattle.link_graph.specs.declared.link.End.TheVariants.{Zero, Three}
use Rattle.link_graph.specs.Counts.{uses}
use Rattle.link_graph.proofs.Users.{made, use_of, uses_few}
use Rattle.link_graph.specs.Masks.{has_bit, has_pair}
use Rattle.link_graph.proofs.Masks.{bit, no_pair}
use Rattle.steady_schedule.specs.Waiting.{sum_below, pair_count, pair_index, count_at, waiting, ArePairCounts, AreSummaries}
use Rattle.steady_schedule.proofs.Sums.{sum_same, sum_none, sum_both, sum_changed, at_most_sum}

-- ---- places

place_low : (u v : ℕ) → u < MAX_MODULES → v < MAX_MODULES → pair_index u v < MAX_MODULES * MAX_MODULES
place_low u v u_in v_in = omega arith

pub same_place : (a b u v : ℕ) → b < MAX_MODULES → v < MAX_MODULES → pair_index a b ≡ pair_index u v → (a ≡ u) × (b ≡ v)
same_place a b u v b_in v_in e = same_from_place a b u v MAX_MODULES b_in v_in e

-- a pair is this one, or another
pub same_or_other : (a b u v : ℕ) (P : ℕ → ℕ → Type 0) → P a b → ((a ≡ u → b ≡ v → ⊥) → P u v) → P u v
same_or_other a b u v P same other = elim (cases_eq a u) [
  | inl e ↦ elim (cases_eq b v) [ inl f ↦ subst (λ (p : ℕ). P p v) e (subst (P a) f same) | inr ne ↦ other (λ _ f. ne f) ]
  | inr ne ↦ other (λ e _. ne e)
]

-- the module of a pair at an end
abbrev pub end_of : ℕ → ℕ → End → ℕ
end_of a b Zero = a
end_of a b Three = b

-- ---- one pair has another count

module _ (counts : List ℕ) (a b k : ℕ) (places : length counts ≡ MAX_MODULES * MAX_MODULES) (a_in : a < MAX_MODULES) (b_in : b < MAX_MODULES) where
  abbrev now : List ℕ
  now = set counts (pair_index a b) k

  pub count_here : count_at now a b ≡ k
  count_here = get_or-set_same counts (pair_index a b) k 0 (omega (arith, places, place_low a b a_in b_in))

  pub count_other : (u v : ℕ) → v < MAX_MODULES → (a ≡ u → b ≡ v → ⊥) → count_at now u v ≡ count_at counts u v
  count_other u v v_in other = get_or-set_other counts (pair_index a b) (pair_index u v) k 0
      (λ e. let same = same_place a b u v b_in v_in (sym e) in other same.0 same.1)

  pub waiting_here : (end : End) → waiting now end (end_of a b end) + count_at counts a b ≡ waiting counts end (end_of a b end) + k
  waiting_here Zero =
      omega (
        arith,
        count_here,
        sum_changed MAX_MODULES b (λ v. count_at counts a v) (λ v. count_at now a v) b_in
            (λ v v_in ne. count_other a v v_in (λ _ e. ne (sym e))),
      )
  waiting_here Three =
      omega (
        arith,
        count_here,
        sum_changed MAX_MODULES a (λ u. count_at counts u b) (λ u. count_at now u b) a_in
            (λ u u_in ne. count_other u b b_in (λ e _. ne (sym e))),
      )

  pub waiting_other : (end : End) (m : ℕ) → m < MAX_MODULES → end_of a b end ≢ m → waiting now end m ≡ waiting counts end m
  waiting_other Zero m m_in ne = sum_same MAX_MODULES (λ v. count_at now m v) (λ v. count_at counts m v) (λ v v_in. count_other m v v_in (λ e _. ne e))
  waiting_other Three m m_in ne = sum_same MAX_MODULES (λ u. count_at now u m) (λ u. count_at counts u m) (λ u u_in. count_other u m m_in (λ _ e. ne e))

  -- a mask of those near, where a bit is as the new count has it
  near_now : (masks : List ℕ) (w at other : ℕ) → at < length masks → (f g : ℕ → ℕ → ℕ)
      → ((u v : ℕ) → u < MAX_MODULES → v < MAX_MODULES → has_pair masks u v ≡ nat_lt 0 (f u v))
      → ((m : ℕ) → m < MAX_MODULES → has_bit w m ≡ cond (other == m) (nat_lt 0 k) (has_pair masks at m)) → at < MAX_MODULES → g at other ≡ k
      → ((u v : ℕ) → u < MAX_MODULES → v < MAX_MODULES → (at ≡ u → other ≡ v → ⊥) → g u v ≡ f u v) → (u v : ℕ) → u < MAX_MODULES → v < MAX_MODULES
      → has_pair (set masks at w) u v ≡ nat_lt 0 (g u v)
  near_now masks w at other at_there f g told bits at_in here others u v u_in v_in = elim (eqb_tells at u) [
    | inl p ↦ subst (λ (x : ℕ). has_pair (set masks at w) x v ≡ nat_lt 0 (g x v)) p.1 (rw (get_or-set_same masks at w 0 at_there, bits v v_in)
        (elim (eqb_tells other v) [
          | inl q ↦ rw q.0 (ap (nat_lt 0) (sym here ∙ ap (g at) q.1))
          | inr q ↦ rw q.0 (told at v at_in v_in ∙ ap (nat_lt 0) (sym (others at v at_in v_in (λ _ e. q.1 e))))
        ]))
    | inr p ↦ rw (get_or-set_other masks at u w 0 (λ e. p.1 (sym e))) (told u v u_in v_in ∙ ap (nat_lt 0) (sym (others u v u_in v_in (λ e _. p.1 e))))
  ]

  uses_now : (uses : List ℕ) (w : ℕ) (end : End) → length uses ≡ MAX_MODULES → ((m : ℕ) → m < MAX_MODULES → get_or uses m 0 ≡ waiting counts end m)
      → end_of a b end < MAX_MODULES → w + count_at counts a b ≡ get_or uses (end_of a b end) 0 + k → (m : ℕ) → m < MAX_MODULES
      → get_or (set uses (end_of a b end) w) m 0 ≡ waiting now end m
  uses_now uses w end sized told low is m m_in = elim (eqb_tells (end_of a b end) m) [
    | inl p ↦ subst (λ (x : ℕ). get_or (set uses (end_of a b end) w) x 0 ≡ waiting now end x) p.1
        (get_or-set_same uses (end_of a b end) w 0 (omega (arith, sized, low)) ∙ omega (arith, waiting_here end, is, told (end_of a b end) low))
    | inr p ↦ get_or-set_other uses (end_of a b end) m w 0 (λ e. p.1 (sym e)) ∙ (told m m_in ∙ sym (waiting_other end m m_in p.1))
  ]

  pub told_now : (zn zu tn tu : List ℕ) (wz uz wt ut : ℕ) → AreSummaries counts zn zu tn tu
      → ((m : ℕ) → m < MAX_MODULES → has_bit wz m ≡ cond (b == m) (nat_lt 0 k) (has_pair zn a m))
      → ((m : ℕ) → m < MAX_MODULES → has_bit wt m ≡ cond (a == m) (nat_lt 0 k) (has_pair tn b m)) → uz + count_at counts a b ≡ get_or zu a 0 + k
      → ut + count_at counts a b ≡ get_or tu b 0 + k → AreSummaries now (set zn a wz) (set zu a uz) (set tn b wt) (set tu b ut)
  told_now zn zu tn tu wz uz wt ut t bits_z bits_t uz_is ut_is = record {
    places = length-set counts (pair_index a b) k ∙ places;
    near_zero_sized = length-set zn a wz ∙ t.near_zero_sized;
    near_three_sized = length-set tn b wt ∙ t.near_three_sized;
    uses_zero_sized = length-set zu a uz ∙ t.uses_zero_sized;
    uses_three_sized = length-set tu b ut ∙ t.uses_three_sized;
    near_zero = near_now zn wz a b (omega (arith, t.near_zero_sized, a_in)) (λ u v. count_at counts u v) (λ u v. count_at now u v) t.near_zero bits_z a_in
        count_here (λ u v u_in v_in other. count_other u v v_in other);
    near_three = λ u v u_in v_in. near_now tn wt b a (omega (arith, t.near_three_sized, b_in)) (λ x y. count_at counts y x) (λ x y. count_at now y x)
        (λ x y x_in y_in. t.near_three y x y_in x_in) bits_t b_in count_here (λ x y x_in y_in other. count_other y x x_in (λ e f. other f e)) v u v_in u_in;
    uses_zero = uses_now zu uz Zero t.uses_zero_sized t.uses_zero a_in uz_is;
    uses_three = uses_now tu ut Three t.uses_three_sized t.uses_three b_in ut_is;
  }

-- ---- no transfers

pub none_at : (n i : ℕ) → get_or {A = ℕ} (replicate n 0) i 0 ≡ 0
none_at n i = grind (arith, elements, get_or_past {X = ℕ} (replicate n 0) i 0)

none_waits : (n : ℕ) (f : ℕ → ℕ) → ((i : ℕ) → f i ≡ 0) → sum_below n f ≡ 0
none_waits n f none = sum_same n f (λ i. 0) (λ i lt. none i) ∙ sum_none n

pub none_told : AreSummaries (replicate (MAX_MODULES * MAX_MODULES) 0) (replicate MAX_MODULES 0) (replicate MAX_MODULES 0) (replicate MAX_MODULES 0)
    (replicate MAX_MODULES 0)
none_told =
    let n : ℕ = MAX_MODULES * MAX_MODULES in
    record {
      places = length-replicate {A = ℕ} n 0;
      near_zero_sized = length-replicate {A = ℕ} MAX_MODULES 0;
      near_three_sized = length-replicate {A = ℕ} MAX_MODULES 0;
      uses_zero_sized = length-replicate {A = ℕ} MAX_MODULES 0;
      uses_three_sized = length-replicate {A = ℕ} MAX_MODULES 0;
      near_zero = λ u v u_in v_in. no_pair MAX_MODULES u v ∙ ap (nat_lt 0) (sym (none_at n (pair_index u v)));
      near_three = λ u v u_in v_in. no_pair MAX_MODULES v u ∙ ap (nat_lt 0) (sym (none_at n (pair_index u v)));
      uses_zero = λ m m_in. none_at MAX_MODULES m ∙ sym (none_waits MAX_MODULES (λ v. count_at (replicate n 0) m v) (λ v. none_at n (pair_index m v)));
      uses_three = λ m m_in. none_at MAX_MODULES m ∙ sym (none_waits MAX_MODULES (λ u. count_at (replicate n 0) u m) (λ u. none_at n (pair_index u m)));
    }

pub none_counted : ArePairCounts [] (replicate (MAX_MODULES * MAX_MODULES) 0)
none_counted = record {
  places = length-replicate {A = ℕ} (MAX_MODULES * MAX_MODULES) 0;
  at = λ u v u_in v_in. none_at (MAX_MODULES * MAX_MODULES)
      (pair_index u v);
}

-- ---- one transfer more

abbrev pub hits : ℕ → ℕ → Transfer → Bool
hits u v x = x.initiator == u && x.responder == v

no_hit : (u v : ℕ) (x : Transfer) → (x.initiator ≡ u → x.responder ≡ v → ⊥) → bit (hits u v x) ≡ 0
no_hit u v x other = elim (eqb_tells x.initiator u) [
  | inl p ↦ elim (eqb_tells x.responder v) [ inl q ↦ absurd (other p.1 q.1) | inr q ↦ rw (p.0, q.0) refl ]
  | inr p ↦ rw p.0 refl
]

-- the count of a transfer's pair is another, and all others are as they were
pub counted_now : (xs ys : List Transfer) (x : Transfer) (counts : List ℕ) (a b k : ℕ) → ArePairCounts xs counts → a ≡ x.initiator → b ≡ x.responder
    → a < MAX_MODULES → b < MAX_MODULES → pair_count ys a b ≡ k → ((u v : ℕ) → bit (hits u v x) ≡ 0 → pair_count ys u v ≡ pair_count xs u v)
    → ArePairCounts ys (set counts (pair_index a b) k)
counted_now xs ys x counts a b k c start answer a_in b_in here others = record {
  places = length-set counts (pair_index a b) k ∙ c.places;
  at = λ u v u_in v_in. same_or_other a b u v (λ p q. count_at (set counts (pair_index a b) k) p q ≡ pair_count ys p q)
      (count_here counts a b k c.places a_in b_in ∙ sym here) (λ other.
      count_other counts a b k c.places a_in b_in u v v_in other
      ∙ (c.at u v u_in v_in ∙ sym (others u v (no_hit u v x (λ e f. other (start ∙ e) (answer ∙ f))))));
}

-- whether the transfer is one of the pair
pub own_hit : (x : Transfer) (a b : ℕ) → a ≡ x.initiator → b ≡ x.responder → bit (hits a b x) ≡ 1
own_hit x a b start answer = rw (eq-eqb x.initiator a (sym start), eq-eqb x.responder b (sym answer)) refl

pub counted_more : (xs : List Transfer) (x : Transfer) (counts : List ℕ) (a b : ℕ) → ArePairCounts xs counts → a ≡ x.initiator → b ≡ x.responder
    → a < MAX_MODULES → b < MAX_MODULES → ArePairCounts (xs ++ x ∷ []) (set counts (pair_index a b) (count_at counts a b + 1))
counted_more xs x counts a b c start answer a_in b_in =
    let pushed = λ (u v : ℕ). sum_by_push (λ y. bit (hits u v y)) xs x in
    counted_now xs (xs ++ x ∷ []) x counts a b (count_at counts a b + 1) c start answer a_in b_in
    (omega (arith, pushed a b, own_hit x a b start answer, c.at a b a_in b_in)) (λ u v none. omega (arith, pushed u v, none))

-- ---- how many wait of a link

sum_left : (n r : ℕ) (b : Bool) → r < n → sum_below n (λ v. bit (b && r == v)) ≡ bit b
sum_left n r b lt =
    let changed = sum_changed n r (λ v. 0) (λ v. bit (b && r == v)) lt (λ v v_in ne. grind (arith, nat_tests)) in
    let here : bit (b && r == r) ≡ bit b = grind (arith, nat_tests) in
    omega (arith, changed, here, sum_none n)

sum_right : (n r : ℕ) (b : Bool) → r < n → sum_below n (λ u. bit (r == u && b)) ≡ bit b
sum_right n r b lt =
    let changed = sum_changed n r (λ u. 0) (λ u. bit (r == u && b)) lt (λ u u_in ne. grind (arith, nat_tests)) in
    let here : bit (r == r && b) ≡ bit b = grind (arith, nat_tests) in
    omega (arith, changed, here, sum_none n)

-- the modules of a transfer are those that there may be
abbrev pub IsLow : Transfer → Type 0
IsLow x = (x.initiator < MAX_MODULES) × (x.responder < MAX_MODULES)

-- the numbers of a link with each of the other end
abbrev pub at_end : List Transfer → End → ℕ → ℕ → ℕ
at_end xs Zero m v = pair_count xs m v
at_end xs Three m u = pair_count xs u m

pub pair_uses : (xs : List Transfer) (end : End) (m : ℕ) → All IsLow xs → sum_below MAX_MODULES (at_end xs end m) ≡ uses xs (made end m)
pair_uses [] Zero m low = sum_none MAX_MODULES
pair_uses [] Three m low = sum_none MAX_MODULES
pair_uses (x ∷ xs) Zero m low =
    let x_low = All-head IsLow x xs low in
    let split = sum_same MAX_MODULES (λ v. pair_count (x ∷ xs) m v) (λ v. bit (hits m v x) + pair_count xs m v)
    (λ v v_in. sum_by-cons (λ y. bit (hits m v y)) x xs) in
    omega (
      arith,
      split,
      sum_both MAX_MODULES (λ v. bit (hits m v x)) (λ v. pair_count xs m v),
      sum_left MAX_MODULES x.responder (x.initiator == m) x_low.1,
      pair_uses xs Zero m (All-tail IsLow x xs low),
      sum_by-cons (use_of (made Zero m)) x xs,
    )
pair_uses (x ∷ xs) Three m low =
    let x_low = All-head IsLow x xs low in
    let split = sum_same MAX_MODULES (λ u. pair_count (x ∷ xs) u m) (λ u. bit (hits u m x) + pair_count xs u m)
    (λ u u_in. sum_by-cons (λ y. bit (hits u m y)) x xs) in
    omega (
      arith,
      split,
      sum_both MAX_MODULES (λ u. bit (hits u m x)) (λ u. pair_count xs u m),
      sum_right MAX_MODULES x.initiator (x.responder == m) x_low.0,
      pair_uses xs Three m (All-tail IsLow x xs low),
      sum_by-cons (use_of (made Three m)) x xs,
    )

pub waiting_uses : (xs : List Transfer) (counts : List ℕ) (end : End) (m : ℕ) → ArePairCounts xs counts → All IsLow xs → m < MAX_MODULES → waiting counts end m
    ≡ uses xs (made end m)
waiting_uses xs counts Zero m c low m_in = sum_same MAX_MODULES (λ v. count_at counts m v) (λ v. pair_count xs m v) (λ v v_in. c.at m v m_in v_in)
    ∙ pair_uses xs Zero m low
waiting_uses xs counts Three m c low m_in = sum_same MAX_MODULES (λ u. count_at counts u m) (λ u. pair_count xs u m) (λ u u_in. c.at u m u_in m_in)
    ∙ pair_uses xs Three m low

pub waiting_few : (xs : List Transfer) (counts : List ℕ) (end : End) (m : ℕ) → ArePairCounts xs counts → All IsLow xs → m < MAX_MODULES
    → waiting counts end m ≤ length xs
waiting_few xs counts end m c low m_in = omega (arith, waiting_uses xs counts end m c low m_in, uses_few xs (made end m))

pub all_low : (batch : List Transfer) → IsBatch batch → All IsLow batch
all_low batch fits k d lt = (fits.within k d lt).0

pub few_wait : (batch : List Transfer) (counts : List ℕ) (t : ℕ) → IsBatch batch → t < length batch → ArePairCounts (take t batch) counts → (end : End) (m : ℕ)
    → m < MAX_MODULES → waiting counts end m < MAX_TRANSFERS
few_wait batch counts t fits t_in c end m m_in =
    omega (
      arith,
      waiting_few (take t batch) counts end m c (All-take IsLow t batch (all_low batch fits)) m_in,
      length-take-le t batch (omega arith),
      fits.few,
      t_in,
    )

-- ---- what a call of `add` or `take` leaves

pub put_bits : (w old b k : ℕ) → 0 < k → ((m : ℕ) → has_bit w m ≡ (has_bit old m || b == m)) → (m : ℕ) → m < MAX_MODULES → has_bit w m
    ≡ cond (b == m) (nat_lt 0 k) (has_bit old m)
put_bits w old b k some is m m_in = grind (arith, nat_tests, is m)

pub out_bits : (w old b k : ℕ) → k ≡ 0 → has_bit w b ≡ false → ((m : ℕ) → m ≢ b → has_bit w m ≡ has_bit old m) → (m : ℕ) → m < MAX_MODULES → has_bit w m
    ≡ cond (b == m) (nat_lt 0 k) (has_bit old m)
out_bits w old b k none out others m m_in = elim (eqb_tells b m) [
  | inl p ↦ rw p.0 (subst (λ (i : ℕ). has_bit w i ≡ nat_lt 0 k) p.1 (out ∙ sym (le-ltb 0 k (omega arith))))
  | inr p ↦ rw p.0 (others m (λ e. p.1 (sym e)))
]

pub kept_bits : (old b k : ℕ) → 0 < k → has_bit old b ≡ true → (m : ℕ) → m < MAX_MODULES → has_bit old m ≡ cond (b == m) (nat_lt 0 k) (has_bit old m)
kept_bits old b k some has m m_in = elim (eqb_tells b m) [
  | inl p ↦ rw p.0 (subst (λ (i : ℕ). has_bit old i ≡ nat_lt 0 k) p.1 (has ∙ sym (lt-ltb 0 k some)))
  | inr p ↦ rw p.0 refl
]

module _ (counts zn zu tn tu : List ℕ) (a b : ℕ) (t : AreSummaries counts zn zu tn tu) (a_in : a < MAX_MODULES) (b_in : b < MAX_MODULES) where
  pub zero_waits : count_at counts a b ≤ get_or zu a 0
  zero_waits = omega (arith, t.uses_zero a a_in, at_most_sum MAX_MODULES b (λ v. count_at counts a v) b_in)

  pub three_waits : count_at counts a b ≤ get_or tu b 0
  three_waits = omega (arith, t.uses_three b b_in, at_most_sum MAX_MODULES a (λ u. count_at counts u b) a_in)

  pub has_near : 0 < count_at counts a b → (has_pair zn a b ≡ true) × (has_pair tn b a ≡ true)
  has_near some = (t.near_zero a b a_in b_in ∙ lt-ltb 0 (count_at counts a b) some, t.near_three a b a_in b_in ∙ lt-ltb 0 (count_at counts a b) some)

  -- some of the pair's transfers are left
  pub told_some : (k uz ut : ℕ) → 0 < k → 0 < count_at counts a b → uz + count_at counts a b ≡ get_or zu a 0 + k → ut + count_at counts a b ≡ get_or tu b 0 + k
      → AreSummaries (set counts (pair_index a b) k) zn (set zu a uz) tn (set tu b ut)
  told_some k uz ut some had uz_is ut_is =
      let near = has_near had in
      let told = told_now counts a b k t.places a_in b_in zn zu tn tu (get_or zn a 0) uz (get_or tn b 0) ut t (kept_bits (get_or zn a 0) b k some near.0)
      (kept_bits (get_or tn b 0) a k some near.1) uz_is ut_is in
      rw (set-get_or zn a 0, set-get_or tn b 0) at told
