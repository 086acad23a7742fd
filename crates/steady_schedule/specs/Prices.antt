-- Prices, which show how often a schedule has to change the switch. A step is a run of settings
-- that join the same pairs. Each link has a price for each length of a step.
use Rattle.std.specs.Prelude.{◌≡◌, ℕ, ◌+◌, ◌-◌, ◌*◌, ◌<◌, ◌≤◌, List, length, All, cond, nat_lt}
use Rattle.std.specs.Prelude.{slice_index, sum_by}
use Rattle.batch.specs.declared.limits.TheConstants.{MAX_MODULES, MAX_TRANSFERS}
use Rattle.batch.specs.declared.transfer.Transfer.{Transfer}
use Rattle.link_graph.specs.declared.limits.TheConstants.{LINKS}
use Rattle.link_graph.specs.declared.link.End.TheVariants.{Zero, Three}
use Rattle.link_graph.specs.declared.link.Link.{Link}
use Rattle.link_graph.specs.Schedules.{IsScheduleOf}
use Rattle.steady_schedule.specs.Changes.{changes}
use Rattle.steady_schedule.specs.Waiting.{sum_below, count_at, count_between, waiting}
use Rattle.steady_schedule.specs.Waiting.{ArePairCounts}
use Rattle.steady_schedule.specs.declared.priced.PriceTable.{PriceTable}

-- each schedule of the batch with so many settings changes the switch at least so often
abbrev pub AreNeeded : List Transfer → ℕ → ℕ → Type 0
AreNeeded batch settings count =
    (schedule : List (List ℕ)) → IsScheduleOf batch schedule → length schedule ≡ settings
    → count ≤ changes batch schedule

-- the link has a transfer in each setting, and at most `top` with any partner: so no step is longer
pub record LimitsSteps (counts : List ℕ) (settings : ℕ) (link : Link) (top : ℕ) : Type 0 where
  pub low : link.«module» < MAX_MODULES
  pub full : waiting counts link.end link.«module» ≡ settings
  pub most : (m : ℕ) → m < MAX_MODULES → count_between counts link.end link.«module» m ≤ top

-- no way to make up the number of lengths, none above `top`, costs less
abbrev pub CostsAtLeast : (ℕ → ℕ) → ℕ → ℕ → ℕ → Type 0
CostsAtLeast price top number cost =
    (lengths : List ℕ) → All (λ k. (0 < k) × (k ≤ top)) lengths → sum_by (λ k. k) lengths ≡ number
    → cost ≤ sum_by price lengths

-- what the prices of a length add up to at most
abbrev pub SCALE : ℕ
SCALE = 65536

-- the price of the link of an index for a length
abbrev pub price_at : List ℕ → ℕ → ℕ → ℕ
price_at prices l k = slice_index prices (k * LINKS + l)

-- the price of a length for a pair; where the one or the other place is after all modules, for the
-- link that is idle
abbrev pub price_for : List ℕ → ℕ → ℕ → ℕ → ℕ
price_for prices u v k =
    cond (nat_lt u MAX_MODULES) (price_at prices u k) 0
    + cond (nat_lt v MAX_MODULES) (price_at prices (MAX_MODULES + v) k) 0

-- how many transfers a pair has; or in how many settings a link is idle
abbrev pub number_for : List ℕ → ℕ → ℕ → ℕ → ℕ
number_for counts settings u v =
    cond (nat_lt u MAX_MODULES)
    (cond (nat_lt v MAX_MODULES) (count_at counts u v) (settings - waiting counts Zero u))
    (cond (nat_lt v MAX_MODULES) (settings - waiting counts Three v) 0)

-- prices of all links for each length up to `top`, which add up to `SCALE` at most
pub record AreFair (prices : List ℕ) (top : ℕ) : Type 0 where
  pub some : 0 < top
  pub few : top ≤ MAX_TRANSFERS
  pub sized : length prices ≡ (top + 1) * LINKS
  pub each : (k : ℕ) → 0 < k → k ≤ top → sum_below LINKS (λ l. price_at prices l k) ≤ SCALE

-- no pair costs more than these, nor does a link while it is idle
abbrev pub NoneCostsMore : List ℕ → ℕ → List ℕ → ℕ → (ℕ → ℕ → ℕ) → Type 0
NoneCostsMore counts settings prices top most =
    (u v cost : ℕ) → u ≤ MAX_MODULES → v ≤ MAX_MODULES
    → CostsAtLeast (price_for prices u v) top (number_for counts settings u v) cost
    → cost ≤ most u v

-- By these prices all numbers, made up as cheaply as can be, cost more than the scale for each
-- change but one. So each schedule of the batch with so many settings has so many changes.
pub record ProveChanges (batch : List Transfer) (settings : ℕ) (prices : List ℕ) (top count : ℕ)
    : Type 0 where
  pub counts : List ℕ
  pub counted : ArePairCounts batch counts
  pub busiest : Link
  pub longest : LimitsSteps counts settings busiest top
  pub fair : AreFair prices top
  pub dear : (most : ℕ → ℕ → ℕ) → NoneCostsMore counts settings prices top most
      → (count - 1) * SCALE
      < sum_below (MAX_MODULES + 1) (λ u. sum_below (MAX_MODULES + 1) (most u))

-- prices show so many changes, if there are any
abbrev pub ShowChanges : List Transfer → ℕ → List ℕ → ℕ → ℕ → Type 0
ShowChanges batch settings prices top count =
    0 < count → ProveChanges batch settings prices top count

-- A table has a price of each link for each length up to the top one, and for 0, which none asks
-- for. It shows so many changes of each schedule of the batch with so many settings. Where it shows
-- none, it has no prices but those for 0.
pub record IsPriceTable (batch : List Transfer) (settings : ℕ) (table : PriceTable) : Type 0 where
  pub sized : length table.prices.items ≡ (table.top + 1) * LINKS
  pub show : ShowChanges batch settings table.prices.items table.top table.changes
  pub none : table.changes ≡ 0 → table.top ≡ 0
