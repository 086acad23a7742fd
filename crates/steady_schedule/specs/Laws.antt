-- Laws of how often the switch changes, each of them a statement of the definitions alone.
use Rattle.std.specs.Prelude.{ℕ, ◌≤◌, List}
use Rattle.batch.specs.Batches.{IsBatch}
use Rattle.batch.specs.declared.transfer.Transfer.{Transfer}
use Rattle.link_graph.specs.declared.link.Link.{Link}
use Rattle.link_graph.specs.Schedules.{IsScheduleOf}
use Rattle.steady_schedule.specs.Changes.{changes}
use Rattle.steady_schedule.specs.Partners.{partners}
use Rattle.steady_schedule.specs.Prices.{AreNeeded, ShowChanges}

-- each schedule changes the switch at least as often as any link has partners
abbrev pub PartnersNeedChanges : Type 0
PartnersNeedChanges =
    (batch : List Transfer) (settings : List (List ℕ)) (link : Link)
    → IsScheduleOf batch settings → partners batch link ≤ changes batch settings

-- each schedule with so many settings changes the switch at least as often as any prices show
abbrev pub PricesNeedChanges : Type 0
PricesNeedChanges =
    (batch : List Transfer) (settings : ℕ) (prices : List ℕ) (top count : ℕ) → IsBatch batch
    → ShowChanges batch settings prices top count → AreNeeded batch settings count
