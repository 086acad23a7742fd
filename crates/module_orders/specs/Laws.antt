-- What the laws state. Proofs use them; no contract of a call cites them.
use Rattle.std.specs.Prelude.{ℕ, List, length, Option, None}
use Rattle.batch.specs.Batches.{IsBatch}
use Rattle.batch.specs.Overlap.{IsApart}
use Rattle.batch.specs.Text.{IsNumber}
use Rattle.batch.specs.declared.transfer.Place.{Place}
use Rattle.batch.specs.declared.transfer.Transfer.{Transfer}
use Rattle.link_graph.specs.Schedules.{IsScheduleOf}
use Rattle.module_memory.specs.Core.{FitsIn, IsPlaced}
use Rattle.module_memory.specs.Settings.{IsRun}
use Rattle.module_memory.specs.Store.{IsWhole, Store}
use Rattle.module_orders.specs.Obeying.{AreObeyed}
use Rattle.module_orders.specs.Orders.{RackTold, orders_of, told_to}
use Rattle.module_orders.specs.OrdersText.{Tells, orders_text}

-- what all modules are told that have orders
abbrev pub all_told : List Transfer → List (List ℕ) → RackTold
all_told batch settings = told_to None (orders_of batch settings)

-- a batch without overlaps, a schedule of it, and a whole store that has its blocks
pub record CanObey (batch : List Transfer) (settings : List (List ℕ)) (opening : Store)
    : Type 0 where
  pub apart : IsApart batch
  pub schedule : IsScheduleOf batch settings
  pub whole : IsWhole opening
  pub places : FitsIn opening.shape batch

-- whatever order words pass in, once all modules have obeyed all orders, setting by setting, all
-- blocks are placed
abbrev pub ObeyedIsPlaced : Type 0
ObeyedIsPlaced =
    (batch : List Transfer) (settings : List (List ℕ)) (opening new : Store)
    → CanObey batch settings opening
    → AreObeyed (all_told batch settings) batch settings opening new → IsPlaced opening batch new

-- and in whatever order the words of each setting are moved, the modules can obey so
abbrev pub RunIsObeyed : Type 0
RunIsObeyed =
    (batch : List Transfer) (settings : List (List ℕ)) (opening new : Store)
    → CanObey batch settings opening → IsRun opening opening batch settings new
    → AreObeyed (all_told batch settings) batch settings opening new

-- the text of orders tells them, of all modules or of one
abbrev pub IsTold : Type 0
IsTold =
    (batch : List Transfer) (settings : List (List ℕ)) (only : Option ℕ) → IsBatch batch
    → IsScheduleOf batch settings → IsNumber (length settings)
    → let told = told_to only (orders_of batch settings) in Tells (orders_text told) told
