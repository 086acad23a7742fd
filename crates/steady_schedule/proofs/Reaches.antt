-- Pairs of links that can be held.
use Rattle.std.proofs.Common.{◌≡◌, ◌≢◌, ◌⊎◌, ◌==◌, ℕ, ◌<◌, ◌≤◌, List, length, set, get_or, true, ◌&&◌, ◌||◌, Option, refl, sym, ap, ◌∙◌, subst, inl, inr, get_or-set_same, get_or-set_other, arith}
use Rattle.std.specs.Int.RustNames.{bit_and}
use Rattle.std.specs.Prelude.{nat_lt}
use Rattle.std.proofs.lemmas.Bool.{cases_eq, cases_Bool, cases_lt, and_parts, and_from, or_left, or_right, eqb-true, eq-eqb, lt-ltb}
use Rattle.std.proofs.lemmas.Bool.Decides.{nat_tests}
use Rattle.std.proofs.lemmas.Nat.Bits.{bit_at_and, bit_at-lt}
use Rattle.batch.specs.declared.limits.TheConstants.{MAX_MODULES}
use Rattle.link_graph.specs.declared.link.End.{End}
use Rattle.link_graph.specs.Masks.{has_bit, has_pair}
use Rattle.steady_schedule.specs.Matchings.{AreMatched}
use Rattle.steady_schedule.specs.Reaches.{AreHeld, HaveHeld, HaveEach}
use Rattle.steady_schedule.specs.Searches.{JoinsNear}
use Rattle.steady_schedule.specs.Waiting.{count_at, count_between}
use Rattle.steady_schedule.proofs.Matchings.{has_low, partner_low, turned}
use Rattle.steady_schedule.proofs.Searching.{both_bits}

-- a pair that is in the masks now was there, or is the new one
pub was_or_is : (masks now : List ℕ) (a b : ℕ) → ((u v : ℕ) → has_pair now u v ≡ (has_pair masks u v || (a == u && b == v))) → (P : ℕ → ℕ → Type 0) → P a b
    → ((u v : ℕ) → has_pair masks u v ≡ true → P u v) → (u v : ℕ) → has_pair now u v ≡ true → P u v
was_or_is masks now a b put P new old u v has = elim (cases_Bool (has_pair masks u v)) [
  | inl t ↦ old u v t
  | inr f ↦
      let both = and_parts (a == u) (b == v) (rw f at (sym (put u v) ∙ has)) in
      subst (λ (x : ℕ). P x v) (eqb-true a u both.0) (subst (λ (y : ℕ). P a y) (eqb-true b v both.1) new)
]

pub held_more : (counts : List ℕ) (k : ℕ) (zn tn zn_now tn_now : List ℕ) (a b : ℕ) → k ≤ count_at counts a b
    → ((u v : ℕ) → has_pair zn_now u v ≡ (has_pair zn u v || (a == u && b == v))) → ((u v : ℕ) → has_pair tn_now u v ≡ (has_pair tn u v || (b == u && a == v)))
    → AreHeld counts k zn tn → AreHeld counts k zn_now tn_now
held_more counts k zn tn zn_now tn_now a b some zero three h = record {
  zero = λ u v u_in v_in has. was_or_is zn zn_now a b zero (λ x y. x < MAX_MODULES → y < MAX_MODULES → k ≤ count_at counts x y) (λ _ _. some)
      (λ x y t x_in y_in. h.zero x y x_in y_in t) u v has u_in v_in;
  three = λ u v u_in v_in has. was_or_is tn tn_now b a three (λ y x. x < MAX_MODULES → y < MAX_MODULES → k ≤ count_at counts x y) (λ _ _. some)
      (λ y x t x_in y_in. h.three x y x_in y_in t) v u has u_in v_in;
}

-- ---- all pairs that can be held

abbrev Adds : List ℕ → List ℕ → ℕ → ℕ → Type 0
Adds old now a b = (u v : ℕ) → has_pair now u v ≡ (has_pair old u v || (a == u && b == v))

pub still_in : (old now : List ℕ) (a b u v : ℕ) → Adds old now a b → has_pair old u v ≡ true → has_pair now u v ≡ true
still_in old now a b u v adds has = adds u v ∙ or_left (has_pair old u v) (a == u && b == v) has

pub put_there : (old now : List ℕ) (a b : ℕ) → Adds old now a b → has_pair now a b ≡ true
put_there old now a b adds = adds a b ∙ or_right (has_pair old a b) (a == a && b == b) (and_from (a == a) (b == b) (eq-eqb a a refl) (eq-eqb b b refl))

pub rows_still : (counts : List ℕ) (k n : ℕ) (zn tn zn_now tn_now : List ℕ) (a b : ℕ) → Adds zn zn_now a b → Adds tn tn_now b a → HaveHeld counts k n zn tn
    → HaveHeld counts k n zn_now tn_now
rows_still counts k n zn tn zn_now tn_now a b zero three rows u v u_in v_in some =
    let was = rows u v u_in v_in some in
    (still_in zn zn_now a b u v zero was.0, still_in tn tn_now b a v u three was.1)

-- what of a row is still to come, and what is in the masks
abbrev pub RowHeld : List ℕ → ℕ → ℕ → ℕ → List ℕ → List ℕ → Type 0
RowHeld counts k a rest zn tn =
    (v : ℕ) → v < MAX_MODULES → k ≤ count_at counts a v → (has_bit rest v ≡ true) ⊎ ((has_pair zn a v ≡ true) × (has_pair tn v a ≡ true))

pub row_put : (counts : List ℕ) (k a b rest less : ℕ) (zn tn zn_now tn_now : List ℕ) → Adds zn zn_now a b → Adds tn tn_now b a
    → ((m : ℕ) → m ≢ b → has_bit less m ≡ has_bit rest m) → RowHeld counts k a rest zn tn → RowHeld counts k a less zn_now tn_now
row_put counts k a b rest less zn tn zn_now tn_now zero three others row v v_in some = elim (cases_eq v b) [
  | inl e ↦ rw e (inr (put_there zn zn_now a b zero, put_there tn tn_now b a three))
  | inr ne ↦ elim (row v v_in some) [
    | inl there ↦ inl (others v ne ∙ there)
    | inr was ↦ inr (still_in zn zn_now a b a v zero was.0, still_in tn tn_now b a v a three was.1)
  ]
]

-- ---- the most of some

pub both_in : (m n i : ℕ) → has_bit m i ≡ true → has_bit n i ≡ true → has_bit (bit_and m n) i ≡ true
both_in m n i one other = grind (arith, nat_tests, bit_at_and m n i, bit_at-lt m i, bit_at-lt n i)

-- those of the others that are to come have how many they have; the rest no more than these
abbrev pub MostSoFar : List ℕ → End → ℕ → ℕ → ℕ → ℕ → Type 0
MostSoFar counts end x others rest most =
    (y : ℕ) → y < MAX_MODULES → has_bit others y ≡ true → (has_bit rest y ≡ true) ⊎ (count_between counts end x y ≤ most)

pub most_begun : (counts near : List ℕ) (end : End) (x others : ℕ) → ((y : ℕ) → y < MAX_MODULES → has_pair near x y ≡ nat_lt 0 (count_between counts end x y))
    → MostSoFar counts end x others (bit_and (get_or near x 0) others) 0
most_begun counts near end x others is y y_in has = elim (cases_lt 0 (count_between counts end x y)) [
  | inl some ↦ inl (both_in (get_or near x 0) others y (is y y_in ∙ lt-ltb 0 (count_between counts end x y) some) has)
  | inr none ↦ inr none
]

pub most_more : (counts : List ℕ) (end : End) (x others rest less most now b : ℕ) → ((m : ℕ) → m ≢ b → has_bit less m ≡ has_bit rest m) → most ≤ now
    → count_between counts end x b ≤ now → MostSoFar counts end x others rest most → MostSoFar counts end x others less now
most_more counts end x others rest less most now b same le here so_far y y_in has = elim (cases_eq y b) [
  | inl e ↦ inr (omega (arith, here, ap (count_between counts end x) e))
  | inr ne ↦ elim (so_far y y_in has) [ inl there ↦ inl (same y ne ∙ there) | inr few ↦ inr (omega (arith, few, le)) ]
]

-- masks of which each is within another
pub within_more : (masks near : List ℕ) (n rest : ℕ) → n < length masks → ((u v : ℕ) → has_pair masks u v ≡ true → has_pair near u v ≡ true) → (u v : ℕ)
    → has_pair (set masks n (bit_and (get_or near n 0) rest)) u v ≡ true → has_pair near u v ≡ true
within_more masks near n rest n_in old u v has = elim (cases_eq u n) [
  | inl here ↦
      let same = get_or-set_same masks n (bit_and (get_or near n 0) rest) 0 n_in in
      let at : has_bit (get_or (set masks n (bit_and (get_or near n 0) rest)) n 0) v ≡ true =
      subst (λ (w : ℕ). has_pair (set masks n (bit_and (get_or near n 0) rest)) w v ≡ true) here has in
      subst (λ (w : ℕ). has_pair near w v ≡ true) (sym here) (both_bits (get_or near n 0) rest v (rw same at at)).0
  | inr other ↦ old u v (rw (get_or-set_other masks n u (bit_and (get_or near n 0) rest) 0 other) at has)
]

-- ---- pairs that are joined

-- pairs that a search joined, from the one end or the other
pub each_joined : (counts : List ℕ) (k : ℕ) (zn tn : List ℕ) (zero now back : List (Option ℕ)) → AreHeld counts k zn tn → AreMatched now back
    → JoinsNear zn zero now → HaveEach counts k zero → HaveEach counts k now
each_joined counts k zn tn zero now back h m joins old x y joined =
    elim (joins x y joined) [ inl same ↦ old x y same | inr near ↦ h.zero x y (has_low now x y m.sized joined) (partner_low now back x y m joined) near ]

pub each_turned : (counts : List ℕ) (k : ℕ) (zn tn : List ℕ) (zero three zero_now three_now : List (Option ℕ)) → AreHeld counts k zn tn → AreMatched zero three
    → AreMatched three_now zero_now → JoinsNear tn three three_now → HaveEach counts k zero → HaveEach counts k zero_now
each_turned counts k zn tn zero three zero_now three_now h m m_now joins old x y joined = elim (joins y x ((m_now.each_other y x).1 joined)) [
  | inl same ↦ old x y ((m.each_other x y).1 same)
  | inr near ↦ h.three x y (has_low zero_now x y m_now.back_sized joined) (partner_low zero_now three_now x y (turned three_now zero_now m_now) joined) near
]
