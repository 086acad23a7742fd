-- Slots for the numbers of settings. Those of a pair stand one after the other, one for each of
-- its transfers, and are written from the last to the first.
use Rattle.std.specs.Prelude.{◌≡◌, ◌≢◌, ◌↔◌, ℕ, ◌+◌, ◌-◌, ◌*◌, ◌<◌, ◌≤◌, ◌⊎◌, List, length, Option}
use Rattle.std.specs.Prelude.{Some, slice_get, slice_index, set, drop}
use Rattle.batch.specs.declared.limits.TheConstants.{MAX_MODULES, MAX_TRANSFERS}
use Rattle.batch.specs.declared.transfer.Transfer.{Transfer}
use Rattle.link_graph.specs.declared.link.End.{End}
use Rattle.link_graph.specs.declared.link.End.TheVariants.{Zero, Three}
use Rattle.link_graph.specs.declared.link.Link.{Link}
use Rattle.link_graph.specs.Uses.{Uses, AreApart}
use Rattle.steady_schedule.specs.Gathered.{AreGathered}
use Rattle.steady_schedule.specs.Matchings.{partner}
use Rattle.steady_schedule.specs.Waiting.{sum_below, pair_count, pair_index, count_at, waiting}

-- where the slots of each place begin, and how many slots there are
pub record AreFirstSlots (totals starts : List ℕ) (room : ℕ) : Type 0 where
  pub at : (p : ℕ) → p < MAX_MODULES * MAX_MODULES
      → slice_index starts p ≡ sum_below p (slice_index totals)
  pub all : room ≡ sum_below (MAX_MODULES * MAX_MODULES) (slice_index totals)
  pub few : room ≤ MAX_MODULES * MAX_MODULES * MAX_TRANSFERS

-- slot i of a pair
abbrev pub slot : List ℕ → List ℕ → ℕ → ℕ → ℕ → ℕ
slot totals slots u v i = slice_index slots (sum_below (pair_index u v) (slice_index totals) + i)

-- slot i of a pair is written: those of the transfers that wait aren't yet
pub record IsWritten (totals remaining : List ℕ) (u v i : ℕ) : Type 0 where
  pub zero_in : u < MAX_MODULES
  pub three_in : v < MAX_MODULES
  pub done : count_at remaining u v ≤ i
  pub there : i < count_at totals u v

-- two pairs are one, or have no common link
abbrev pub AreOneOrApart : ℕ → ℕ → ℕ → ℕ → Type 0
AreOneOrApart u v w x = ((u ≡ w) × (v ≡ x)) ⊎ ((u ≢ w) × (v ≢ x))

-- The numbers that are written are below that of the next setting. Those of a pair fall, and two
-- pairs with the same number have no common link.
pub record AreNumbered (totals remaining slots : List ℕ) (next : ℕ) : Type 0 where
  pub sized : length slots ≡ sum_below (MAX_MODULES * MAX_MODULES) (slice_index totals)
  pub within : (u v : ℕ) → u < MAX_MODULES → v < MAX_MODULES
      → count_at remaining u v ≤ count_at totals u v
  pub below : (u v i : ℕ) → IsWritten totals remaining u v i → slot totals slots u v i < next
  pub falling : (u v i j : ℕ) → IsWritten totals remaining u v i → i < j → j < count_at totals u v
      → slot totals slots u v j < slot totals slots u v i
  pub apart : (u v i w x j : ℕ) → IsWritten totals remaining u v i
      → IsWritten totals remaining w x j
      → slot totals slots u v i ≡ slot totals slots w x j → AreOneOrApart u v w x

-- some slot of the pair has the number d
abbrev pub StandsIn : List ℕ → List ℕ → List ℕ → ℕ → ℕ → ℕ → Type 0
StandsIn totals remaining slots d u v =
    (i : ℕ) × IsWritten totals remaining u v i × (slot totals slots u v i ≡ d)

-- Numbers while a matching is written: just joined pairs of the first n modules have each number
-- from `first` on.
pub record AreNumberedFrom (zero : List (Option ℕ)) (first n : ℕ) (totals remaining slots : List ℕ)
    (next : ℕ) : Type 0 where
  pub numbered : AreNumbered totals remaining slots next
  pub recent : (u v i : ℕ) → IsWritten totals remaining u v i → first ≤ slot totals slots u v i
      → (u < n) × (partner zero u ≡ Some v)
  pub each : (u v d : ℕ) → u < n → partner zero u ≡ Some v → first ≤ d → d < next
      → StandsIn totals remaining slots d u v

-- the same pairs have the numbers below `first`
pub record KeepNumbers (totals : List ℕ) (first : ℕ)
    (remaining slots remaining_now slots_now : List ℕ)
    : Type 0 where
  pub old : (u v d : ℕ) → d < first → StandsIn totals remaining slots d u v
      → StandsIn totals remaining_now slots_now d u v
  pub only : (u v d : ℕ) → d < first → StandsIn totals remaining_now slots_now d u v
      → StandsIn totals remaining slots d u v

-- the same pairs have two numbers
abbrev pub HaveSame : List ℕ → List ℕ → List ℕ → ℕ → ℕ → Type 0
HaveSame totals remaining slots d e =
    (u v : ℕ) → StandsIn totals remaining slots d u v ↔ StandsIn totals remaining slots e u v

-- some pair of the link has the number d
abbrev pub LinkHas : List ℕ → List ℕ → List ℕ → ℕ → End → ℕ → Type 0
LinkHas totals remaining slots d Zero m = (v : ℕ) × StandsIn totals remaining slots d m v
LinkHas totals remaining slots d Three m = (u : ℕ) × StandsIn totals remaining slots d u m

-- Something is over with the number d: a pair that has it has no later one, and nothing of it
-- waits; or a link that hasn't it has each later one, and as many transfers wait as settings are
-- left.
pub data IsOverAt (totals remaining slots : List ℕ) (settings next d : ℕ) : Type 0 where
  pair_done : (u v : ℕ) → StandsIn totals remaining slots d u v
      → ((e : ℕ) → d < e → StandsIn totals remaining slots e u v → ⊥) → count_at remaining u v ≡ 0
      → IsOverAt totals remaining slots settings next d
  link_needed : (end : End) (m : ℕ) → m < MAX_MODULES → (LinkHas totals remaining slots d end m → ⊥)
      → ((e : ℕ) → d < e → e < next → LinkHas totals remaining slots e end m)
      → waiting remaining end m + next ≡ settings → IsOverAt totals remaining slots settings next d

-- after each number but the last of all there is one that the same pairs have, or something is
-- over
abbrev pub AreAtNeed : List ℕ → List ℕ → List ℕ → ℕ → ℕ → Type 0
AreAtNeed totals remaining slots settings next =
    (d : ℕ) → d < next → d + 1 < settings
    → ((d + 1 < next) × HaveSame totals remaining slots d (d + 1))
    ⊎ IsOverAt totals remaining slots settings next d

-- the slots have the numbers of all settings, as steps wrote them until no transfer waited
pub record AreFilled (totals slots : List ℕ) (settings : ℕ) : Type 0 where
  pub counts : List ℕ
  pub done : (u v : ℕ) → u < MAX_MODULES → v < MAX_MODULES → count_at counts u v ≡ 0
  pub numbered : AreNumbered totals counts slots settings
  pub needs : AreAtNeed totals counts slots settings settings

-- the numbers from `first` on are written into k slots, the first of them last
pub record AreSlotsFilled (at first k : ℕ) (old new : List ℕ) : Type 0 where
  pub sized : length new ≡ length old
  pub here : (p : ℕ) → at ≤ p → p < at + k → slice_index new p + p + 1 ≡ first + (at + k)
  pub before : (p : ℕ) → p < at → slice_index new p ≡ slice_index old p
  pub behind : (p : ℕ) → at + k ≤ p → slice_index new p ≡ slice_index old p

-- there is a slot for each transfer, and no more of them wait than there are
pub record AreSlotsOf (totals remaining slots : List ℕ) : Type 0 where
  pub sized : length slots ≡ sum_below (MAX_MODULES * MAX_MODULES) (slice_index totals)
  pub within : (u v : ℕ) → u < MAX_MODULES → v < MAX_MODULES
      → count_at remaining u v ≤ count_at totals u v

-- k transfers of the pair are taken, and the numbers from `first` on are written for them
pub record IsKeptFor (totals : List ℕ) (u v first k : ℕ)
    (remaining slots remaining_now slots_now : List ℕ)
    : Type 0 where
  pub taken : remaining_now ≡ set remaining (pair_index u v) (count_at remaining u v - k)
  pub written : AreSlotsFilled
      (sum_below (pair_index u v) (slice_index totals)
      + (count_at remaining u v - k)) first k slots slots_now

-- nothing has changed
pub record IsHeldAs (remaining slots remaining_now slots_now : List ℕ) : Type 0 where
  pub same : remaining_now ≡ remaining
  pub slots_same : slots_now ≡ slots

-- each of the first n transfers has the number of its slot, the last that is left of its pair's
pub record AreReadTo (batch : List Transfer) (totals slots numbers : List ℕ) (n : ℕ) : Type 0 where
  pub sized : length numbers ≡ n
  pub at : (t : ℕ) (x : Transfer) → t < n → slice_get batch t ≡ Some x
      → slice_index numbers t
      ≡ slot totals slots x.initiator x.responder
      (pair_count (drop (t + 1) batch) x.initiator x.responder)

-- the same numbers, and settings that are made of them
pub record AreReadInto (batch : List Transfer) (totals slots : List ℕ) (settings n : ℕ)
    (lists : List (List ℕ)) : Type 0 where
  pub numbers : List ℕ
  pub read : AreReadTo batch totals slots numbers n
  pub gathered : AreGathered numbers settings lists

-- each slot of a pair has a number below that of the settings
abbrev pub AreSlotsBelow : List ℕ → List ℕ → ℕ → Type 0
AreSlotsBelow totals slots settings =
    (u v i : ℕ) → u < MAX_MODULES → v < MAX_MODULES → i < count_at totals u v
    → slot totals slots u v i < settings

-- ---- the numbers of all transfers

-- each transfer has a number below that of the settings, and two with the same one have no common
-- link
pub record AreProper (batch : List Transfer) (settings : ℕ) (numbers : List ℕ) : Type 0 where
  pub sized : length numbers ≡ length batch
  pub below : (t : ℕ) → t < length batch → slice_index numbers t < settings
  pub apart : (t u : ℕ) → t < u → u < length batch → slice_index numbers t ≡ slice_index numbers u
      → AreApart batch t u

-- a transfer of the pair has the number d
pub record JoinsAs (batch : List Transfer) (numbers : List ℕ) (d u v : ℕ) : Type 0 where
  pub t : ℕ
  pub x : Transfer
  pub here : slice_get batch t ≡ Some x
  pub zero_is : x.initiator ≡ u
  pub three_is : x.responder ≡ v
  pub number : slice_index numbers t ≡ d

-- a transfer that uses the link has the number d
pub record UsesAs (batch : List Transfer) (numbers : List ℕ) (d : ℕ) (link : Link) : Type 0 where
  pub t : ℕ
  pub used : Uses batch t link
  pub number : slice_index numbers t ≡ d

-- Something is over with the number d: a pair that has it has no later one, or a link that hasn't
-- it has each later one.
pub data IsOverAs (batch : List Transfer) (settings : ℕ) (numbers : List ℕ) (d : ℕ) : Type 0 where
  pair_done : (u v : ℕ) → JoinsAs batch numbers d u v
      → ((e : ℕ) → d < e → JoinsAs batch numbers e u v → ⊥)
      → IsOverAs batch settings numbers d
  link_needed : (link : Link) → (UsesAs batch numbers d link → ⊥)
      → ((e : ℕ) → d < e → e < settings → UsesAs batch numbers e link)
      → IsOverAs batch settings numbers d

-- each number has the pairs of the one after it, or something is over with it
abbrev pub HaveNeeds : List Transfer → ℕ → List ℕ → Type 0
HaveNeeds batch settings numbers =
    (d : ℕ) → d + 1 < settings
    → ((u v : ℕ) → JoinsAs batch numbers d u v ↔ JoinsAs batch numbers (d + 1) u v)
    ⊎ IsOverAs batch settings numbers d

-- settings that are made of proper numbers of all transfers, where pairs change at need
pub record AreNumberedSettings (batch : List Transfer) (settings : ℕ) (lists : List (List ℕ))
    : Type 0 where
  pub numbers : List ℕ
  pub proper : AreProper batch settings numbers
  pub needs : HaveNeeds batch settings numbers
  pub gathered : AreGathered numbers settings lists
