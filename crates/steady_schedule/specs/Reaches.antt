-- What a step can hold for k settings.
use Rattle.std.specs.Prelude.{◌≡◌, ◌⊎◌, ℕ, ◌+◌, ◌<◌, ◌≤◌, List, Option, Some, None, IsSome, true}
use Rattle.std.specs.Prelude.{false, ◌&&◌, nat_lt, slice_index}
use Rattle.batch.specs.declared.limits.TheConstants.{MAX_MODULES}
use Rattle.link_graph.specs.declared.link.End.{End}
use Rattle.link_graph.specs.declared.link.End.TheVariants.{Zero, Three}
use Rattle.link_graph.specs.Masks.{has_bit, has_pair}
use Rattle.steady_schedule.specs.Matchings.{partner}
use Rattle.steady_schedule.specs.Searches.{AllSeen, IsStuck}
use Rattle.steady_schedule.specs.Waiting.{count_at, count_between, waiting}

-- each pair of links in the masks of the links 0, and in those of the links 3, has k transfers that
-- wait, or more
pub record AreHeld (counts : List ℕ) (k : ℕ) (zero_near three_near : List ℕ) : Type 0 where
  pub zero : (u v : ℕ) → u < MAX_MODULES → v < MAX_MODULES → has_pair zero_near u v ≡ true
      → k ≤ count_at counts u v
  pub three : (u v : ℕ) → u < MAX_MODULES → v < MAX_MODULES → has_pair three_near v u ≡ true
      → k ≤ count_at counts u v

-- each pair of the first n links 0 that has k transfers that wait, or more, is in the masks
abbrev pub HaveHeld : List ℕ → ℕ → ℕ → List ℕ → List ℕ → Type 0
HaveHeld counts k n zero_near three_near =
    (u v : ℕ) → u < n → v < MAX_MODULES → k ≤ count_at counts u v
    → (has_pair zero_near u v ≡ true) × (has_pair three_near v u ≡ true)

-- just those of the first n links that have more transfers are in the mask
abbrev pub IsOverMask : List ℕ → ℕ → ℕ → ℕ → Type 0
IsOverMask uses count n mask =
    (x : ℕ) → has_bit mask x ≡ (nat_lt x n && nat_lt count (slice_index uses x))

-- each pair that is joined has k transfers that wait, or more
abbrev pub HaveEach : List ℕ → ℕ → List (Option ℕ) → Type 0
HaveEach counts k zero = (x y : ℕ) → partner zero x ≡ Some y → k ≤ count_at counts x y

-- each link that has more transfers than there are settings left after k of `most` is joined
pub record JoinsNeeded (counts : List ℕ) (zero three : List (Option ℕ)) (most k : ℕ) : Type 0 where
  pub zero_joined : (x : ℕ) → x < MAX_MODULES → most < waiting counts Zero x + k
      → IsSome (partner zero x)
  pub three_joined : (x : ℕ) → x < MAX_MODULES → most < waiting counts Three x + k
      → IsSome (partner three x)

-- A search for a partner of x, which is needed, was in vain: x is free, all links near it are seen,
-- and each link that is seen has a partner that is needed, all links near which are seen.
pub record IsBarred (near : List ℕ) (needed unseen x : ℕ) (of back : List (Option ℕ)) : Type 0 where
  pub free : partner of x ≡ None
  pub seen : AllSeen near unseen x
  pub stuck : (y : ℕ) → y < MAX_MODULES → has_bit unseen y ≡ false
      → IsStuck near needed unseen back y

-- link z is x, or is joined to a link that is seen
abbrev pub IsInWay : ℕ → ℕ → List (Option ℕ) → ℕ → Type 0
IsInWay unseen x of z =
    (z ≡ x) ⊎ ((y : ℕ) × (partner of z ≡ Some y) × (has_bit unseen y ≡ false))

-- no more than s transfers join the link of an end to any of these of the other end
abbrev pub AreAtMost : List ℕ → End → ℕ → ℕ → ℕ → Type 0
AreAtMost counts end x others s =
    (y : ℕ) → y < MAX_MODULES → has_bit others y ≡ true → count_between counts end x y ≤ s
