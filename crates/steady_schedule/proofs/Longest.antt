-- Where the search for a partner of a link is in vain: the links in the way, all of which are
-- needed, and have transfers with links alone that are seen.
use Rattle.std.proofs.Common.{◌≡◌, ◌==◌, ℕ, ◌+◌, ◌-◌, ◌<◌, ◌≤◌, ◌||◌, List, get_or, Bool, true, false, not, cond, Option, Some, None, refl, sym, ◌∙◌, subst, inl, inr, arith}
use Rattle.std.specs.Prelude.{IsSome, nat_lt}
use Rattle.std.proofs.lemmas.Bool.{cases_Bool, cases_lt, or_cases, or_left, or_right, eqb-true, eq-eqb, false≢true, lt-ltb, and_from, and_parts, ltb-true}
use Rattle.std.proofs.lemmas.Option.{none-some, same_Some}
use Rattle.batch.specs.declared.limits.TheConstants.{MAX_MODULES}
use Rattle.link_graph.specs.declared.link.End.{End}
use Rattle.link_graph.specs.declared.link.End.TheVariants.{Zero}
use Rattle.link_graph.specs.Masks.{has_bit}
use Rattle.steady_schedule.specs.Matchings.{partner, AreMatched}
use Rattle.steady_schedule.specs.Reaches.{HaveHeld, IsOverMask, IsBarred, IsInWay}
use Rattle.steady_schedule.specs.Searches.{AllSeen, IsInVain}
use Rattle.steady_schedule.specs.Waiting.{count_at, waiting, NoneWait}
use Rattle.steady_schedule.proofs.Covers.{all_unseen}
use Rattle.steady_schedule.proofs.Matchings.{partner_low}
use Rattle.steady_schedule.proofs.Sums.{at_most_sum}

-- ---- links in the way

module _ (unseen : ℕ) (back : List (Option ℕ)) where
  -- the partner of a link that is seen
  abbrev pub seen_partner : ℕ → Option ℕ
  seen_partner y = cond (not (has_bit unseen y)) (partner back y) None

  pub seen_partner_is : (y z : ℕ) → seen_partner y ≡ Some z → partner back y ≡ Some z
  seen_partner_is y z e = elim (cases_Bool (has_bit unseen y)) [
    | inl t ↦ absurd (none-some z (rw t at e))
    | inr f ↦ rw f at e
  ]

module _ (unseen x : ℕ) (of : List (Option ℕ)) where
  abbrev seen_of : Option ℕ → Bool
  seen_of None = false
  seen_of (Some y) = not (has_bit unseen y)

  abbrev pub in_way : ℕ → Bool
  in_way z = z == x || seen_of (partner of z)

  seen_is : (o : Option ℕ) → seen_of o ≡ true → (y : ℕ) × (o ≡ Some y) × (has_bit unseen y ≡ false)
  seen_is None t = absurd (false≢true t)
  seen_is (Some y) t = elim (cases_Bool (has_bit unseen y)) [
    | inl u ↦ absurd (false≢true (rw u at t))
    | inr f ↦ (y, refl, f)
  ]

  pub way_is : (z : ℕ) → in_way z ≡ true → IsInWay unseen x of z
  way_is z t = elim (or_cases (z == x) (seen_of (partner of z)) t) [
    | inl e ↦ inl (eqb-true z x e)
    | inr s ↦ inr (seen_is (partner of z) s)
  ]

  pub way_seen : (z y : ℕ) → partner of z ≡ Some y → has_bit unseen y ≡ false → in_way z ≡ true
  way_seen z y joined f = or_right (z == x) (seen_of (partner of z)) (rw (joined, f) refl)

  pub way_here : in_way x ≡ true
  way_here = or_left (x == x) (seen_of (partner of x)) (eq-eqb x x refl)

-- ---- the links that a search in vain leaves

pub barred_seen : (near : List ℕ) (needed unseen x : ℕ) (of back : List (Option ℕ)) → IsBarred near needed unseen x of back → (y : ℕ) → y < MAX_MODULES
    → has_bit unseen y ≡ false → IsSome (partner back y)
barred_seen near needed unseen x of back b y y_in f = let s = b.stuck y y_in f in rw s.joined refl

-- each link in the way is needed, and all links near it are seen
pub way_barred : (near : List ℕ) (needed unseen x : ℕ) (of back : List (Option ℕ)) → AreMatched of back → has_bit needed x ≡ true
    → IsBarred near needed unseen x of back → (z : ℕ) → IsInWay unseen x of z → (has_bit needed z ≡ true) × AllSeen near unseen z
way_barred near needed unseen x of back m is b z (inl e) = rw e (is, b.seen)
way_barred near needed unseen x of back m is b z (inr p) =
    let s = b.stuck p.0 (partner_low of back z p.0 m p.1) p.2 in
    let same : s.x ≡ z = same_Some s.x z (sym s.joined ∙ (m.each_other z p.0).0 p.1) in
    subst (λ (w : ℕ). (has_bit needed w ≡ true) × AllSeen near unseen w) same (s.is_needed, s.seen)

-- ---- masks of the links that have more

pub over_low : (uses : List ℕ) (count n mask x : ℕ) → IsOverMask uses count n mask → has_bit mask x ≡ true → (x < n) × (count < get_or uses x 0)
over_low uses count n mask x over has =
    let both = and_parts (nat_lt x n) (nat_lt count (get_or uses x 0)) (sym (over x) ∙ has) in
    (ltb-true x n both.0, ltb-true count (get_or uses x 0) both.1)

pub over_has : (uses : List ℕ) (count n mask x : ℕ) → IsOverMask uses count n mask → x < n → count < get_or uses x 0 → has_bit mask x ≡ true
over_has uses count n mask x over lt more = over x ∙ and_from (nat_lt x n) (nat_lt count (get_or uses x 0)) (lt-ltb x n lt)
    (lt-ltb count (get_or uses x 0) more)

-- ---- what stands in the way

pub barred_is : (near : List ℕ) (needed unseen x : ℕ) (of now back back_now : List (Option ℕ)) → partner of x ≡ None → IsInVain near needed 4294967295 unseen of
    now back back_now → AllSeen near unseen x → IsBarred near needed unseen x now back_now
barred_is near needed unseen x of now back back_now free vain seen = record {
  free = vain.same x ∙ free;
  seen = seen;
  stuck = λ y y_in f. vain.stuck y (all_unseen y y_in) f;
}

-- all pairs with so many transfers are in the masks, where those of the first links are
pub all_held : (counts : List ℕ) (k n : ℕ) (zn tn : List ℕ) → 0 < k → NoneWait counts n → HaveHeld counts k n zn tn → HaveHeld counts k MAX_MODULES zn tn
all_held counts k n zn tn some none held u v u_in v_in le = elim (cases_lt u n) [
  | inl lt ↦ held u v lt v_in le
  | inr past ↦ absurd (omega (arith, some, le, at_most_sum MAX_MODULES v (λ w. count_at counts u w) v_in, none Zero u past u_in))
]

-- the links that have to be joined are those in the mask
pub joined_over : (counts : List ℕ) (end : End) (uses : List ℕ) (needed most k n : ℕ) (of : List (Option ℕ)) → k ≤ most → NoneWait counts n
    → ((m : ℕ) → m < MAX_MODULES → get_or uses m 0 ≡ waiting counts end m) → IsOverMask uses (most - k) n needed
    → ((z : ℕ) → has_bit needed z ≡ true → IsSome (partner of z)) → (x : ℕ) → x < MAX_MODULES → most < waiting counts end x + k → IsSome (partner of x)
joined_over counts end uses needed most k n of few none is over joined x x_in more = elim (cases_lt x n) [
  | inl lt ↦ joined x (over_has uses (most - k) n needed x over lt (omega (arith, more, is x x_in, few)))
  | inr past ↦ absurd (omega (arith, more, few, none end x past x_in))
]
