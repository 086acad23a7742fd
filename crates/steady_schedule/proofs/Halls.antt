-- Where a link that is full finds no partner, and the links in its way have transfers with links
-- alone that are seen: there is no such link. All links in the way would be full. They are one more
-- than the links that are seen, and would have more transfers than these may have.
use Rattle.std.proofs.Common.{◌≡◌, ◌≢◌, ℕ, ◌-◌, ◌<◌, ◌≤◌, List, get_or, Bool, true, false, not, Option, Some, None, refl, sym, ap, ◌∙◌, inl, inr, arith}
use Rattle.std.specs.Prelude.{IsSome}
use Rattle.std.proofs.lemmas.Bool.{cases_Bool, cases_lt, false≢true}
use Rattle.std.proofs.lemmas.Option.{none-some, same_Some}
use Rattle.batch.specs.declared.limits.TheConstants.{MAX_MODULES}
use Rattle.link_graph.specs.declared.link.End.{End}
use Rattle.link_graph.specs.declared.link.End.TheVariants.{Zero, Three}
use Rattle.link_graph.specs.Masks.{has_bit, has_pair}
use Rattle.steady_schedule.specs.Matchings.{partner, AreMatched}
use Rattle.steady_schedule.specs.Reaches.{AreAtMost, IsBarred, IsInWay, IsOverMask}
use Rattle.steady_schedule.specs.Waiting.{sum_below, count_at, count_between, waiting, HaveMost}
use Rattle.steady_schedule.proofs.Longest.{in_way, way_is, way_seen, way_here, seen_partner, seen_partner_is, way_barred, over_low, barred_seen}
use Rattle.steady_schedule.proofs.Matchings.{has_low}
use Rattle.steady_schedule.proofs.Sums.{only, only_few, only_most, sum_same, sum_most, sum_swap, sum_only, without, without_other, sum_without, at_partner, partner_cases, partners_sum}

-- what waits of a link, by either end
row_waits : (counts : List ℕ) (end : End) (z : ℕ) → sum_below MAX_MODULES (λ y. count_between counts end z y) ≡ waiting counts end z
row_waits counts Zero z = sum_same MAX_MODULES (λ y. count_between counts Zero z y) (λ y. count_at counts z y) (λ y lt. refl)
row_waits counts Three z = sum_same MAX_MODULES (λ y. count_between counts Three z y) (λ y. count_at counts y z) (λ y lt. refl)

column_waits : (counts : List ℕ) (most : ℕ) → HaveMost counts most → (end : End) (y : ℕ) → y < MAX_MODULES
    → sum_below MAX_MODULES (λ z. count_between counts end z y) ≤ most
column_waits counts most h Zero y y_in = h Three y y_in
column_waits counts most h Three y y_in = h Zero y y_in

module _ (counts : List ℕ) (most : ℕ) (h : HaveMost counts most) (end : End) (unseen x : ℕ) (of back : List (Option ℕ)) (m : AreMatched of back)
    (x_in : x < MAX_MODULES) (x_free : partner of x ≡ None) (joined : (y : ℕ) → y < MAX_MODULES → has_bit unseen y ≡ false → IsSome (partner back y))
    (full : (z : ℕ) → IsInWay unseen x of z → most ≤ waiting counts end z) (few : (z : ℕ) → IsInWay unseen x of z → AreAtMost counts end z unseen 0) where
  abbrev seen : ℕ → Bool
  seen y = not (has_bit unseen y)

  -- what a link has with those that are seen; and only where it is in the way
  abbrev weight : ℕ → ℕ
  weight z = sum_below MAX_MODULES (λ y. only (seen y) (count_between counts end z y))

  abbrev way_weight : ℕ → ℕ
  way_weight z = only (in_way unseen x of z) (weight z)

  full_weight : (z : ℕ) → in_way unseen x of z ≡ true → most ≤ way_weight z
  full_weight z t =
      let is = way_is unseen x of z t in
      let same = sum_same MAX_MODULES (λ y. only (seen y) (count_between counts end z y)) (λ y. count_between counts end z y)
      (λ y y_in. elim (cases_Bool (has_bit unseen y)) [
        | inl u ↦ omega (arith, ap (λ (b : Bool). only (not b) (count_between counts end z y)) u, few z is y y_in u)
        | inr f ↦ ap (λ (b : Bool). only (not b) (count_between counts end z y)) f
      ]) in
      omega (arith, same, row_waits counts end z, full z is, ap (λ (b : Bool). only b (weight z)) t)

  partner_weight : (y : ℕ) → y < MAX_MODULES → only (seen y) most ≤ at_partner (without x way_weight) (seen_partner unseen back y)
  partner_weight y y_in = elim (cases_Bool (has_bit unseen y)) [
    | inl t ↦ omega (arith, ap (λ (b : Bool). only (not b) most) t)
    | inr f ↦ partner_cases (partner back y) (only (seen y) most ≤ at_partner (without x way_weight) (seen_partner unseen back y))
        (λ none. absurd (false≢true (rw none at (joined y y_in f))))
        (λ z is.
        let own = (m.each_other z y).1 is in
        let other : z ≢ x = λ e. none-some y (sym x_free ∙ (ap (partner of) (sym e) ∙ own)) in
        let here : seen_partner unseen back y ≡ Some z = rw f is in
        let value : at_partner (without x way_weight) (seen_partner unseen back y) ≡ way_weight z = ap (at_partner (without x way_weight)) here
        ∙ without_other x z way_weight other in
        omega (arith, value, full_weight z (way_seen unseen x of z y own f), ap (λ (b : Bool). only (not b) most) f))
  ]

  pub no_such_way : 0 < most → ⊥
  no_such_way some =
      let below = sum_most MAX_MODULES (λ y. only (seen y) most) (λ y. at_partner (without x way_weight) (seen_partner unseen back y)) partner_weight in
      let partners = partners_sum MAX_MODULES MAX_MODULES (seen_partner unseen back) (without x way_weight)
      (λ y z y_in e. has_low of z y m.sized ((m.each_other z y).1 (seen_partner_is unseen back y z e)))
      (λ y w z e f. same_Some y w (sym ((m.each_other z y).1 (seen_partner_is unseen back y z e))
      ∙ (m.each_other z w).1 (seen_partner_is unseen back w z f))) in
      let all = sum_without MAX_MODULES x way_weight x_in in
      let within = sum_most MAX_MODULES way_weight weight (λ z lt. only_few (in_way unseen x of z) (weight z)) in
      let turned = sum_swap MAX_MODULES MAX_MODULES (λ z y. only (seen y) (count_between counts end z y)) in
      let columns = sum_most MAX_MODULES (λ y. sum_below MAX_MODULES (λ z. only (seen y) (count_between counts end z y))) (λ y. only (seen y) most)
      (λ y y_in. rw (sum_only MAX_MODULES (seen y) (λ z. count_between counts end z y))
      (only_most (seen y) (sum_below MAX_MODULES (λ z. count_between counts end z y)) most (column_waits counts most h end y y_in))) in
      omega (arith, below, partners, all, within, turned, columns, full_weight x (way_here unseen x of), some)

-- so a search in vain was for more than one setting
pub barred_longer : (counts : List ℕ) (end : End) (near uses : List ℕ) (needed unseen x : ℕ) (of back : List (Option ℕ)) (most k n : ℕ) → 0 < k → k ≤ most
    → n ≤ MAX_MODULES → ((m : ℕ) → m < MAX_MODULES → get_or uses m 0 ≡ waiting counts end m) → IsOverMask uses (most - k) n needed
    → ((z y : ℕ) → z < MAX_MODULES → y < MAX_MODULES → k ≤ count_between counts end z y → has_pair near z y ≡ true) → AreMatched of back → has_bit needed x
    ≡ true → IsBarred near needed unseen x of back → HaveMost counts most → 1 < k
barred_longer counts end near uses needed unseen x of back most k n some few within is over all_near m x_needed b h = elim (cases_lt 1 k) [
  | inl lt ↦ lt
  | inr none ↦
      let way = way_barred near needed unseen x of back m x_needed b in
      let low = λ (z : ℕ) (w : IsInWay unseen x of z). over_low uses (most - k) n needed z over (way z w).0 in
      absurd (no_such_way counts most h end unseen x of back m (omega (arith, (low x (inl refl)).0, within)) b.free (barred_seen near needed unseen x of back b)
      (λ z w. omega (arith, (low z w).0, (low z w).1, within, is z (omega (arith, (low z w).0, within)), some, few, none))
      (λ z w y y_in free. elim (cases_lt 0 (count_between counts end z y)) [
        | inr le ↦ le
        | inl lt ↦ absurd (false≢true (sym ((way z w).1 y (all_near z y (omega (arith, (low z w).0, within)) y_in (omega (arith, lt, none)))) ∙ free))
      ])
      (omega (arith, some, few)))
]
