-- What `orders` answers: what each module of a rack does for a schedule. The order in which things
-- are looked at is this project's choice.
use Rattle.std.specs.Prelude.{◌≡◌, ℕ, List, Option}
use Rattle.batch.specs.ShapeView.{widest}
use Rattle.batch.specs.Overlap.{IsApart, IsFirstOverlap}
use Rattle.batch.specs.declared.transfer.Transfer.{Transfer}
use Rattle.module_orders.specs.Orders.{orders_of, told_to}
use Rattle.module_orders.specs.OrdersText.{orders_text}
use Rattle.plan_answers.specs.Refusals.{IsRefused, Printed}
use Rattle.plan_answers.specs.Schedules.{IsScheduleFrom, IsWrongFrom}
use Rattle.plan_answers.specs.declared.limits.TheConstants.{DONE}
use Rattle.plan_answers.specs.declared.source.ScheduleSource.{ScheduleSource}
use Rattle.refusals.specs.Refusals.{refusal_words}
use Rattle.refusals.specs.declared.refusal.Refusal.{Refusal}
use Rattle.refusals.specs.declared.refusal.Refusal.TheVariants.{Overlap}

-- the orders of all modules, or of one, for a schedule of a batch in which no two transfers write
-- one block; else the refusal of the first two that do
pub data TellsOrders (batch : List Transfer) (settings : List (List ℕ)) (only : Option ℕ)
    (printed : Printed) : Type 0 where
  told : IsApart batch → printed.text ≡ orders_text (told_to only (orders_of batch settings))
      → printed.status ≡ DONE → TellsOrders batch settings only printed
  overlap : (i j : ℕ) → IsFirstOverlap batch i j → IsRefused (refusal_words (Overlap i j)) printed
      → TellsOrders batch settings only printed

-- that, for a schedule from this source, or the refusal of what is first wrong with the texts
pub data IsOrdered (source : ScheduleSource (List ℕ)) (only : Option ℕ) (batch : List ℕ)
    (printed : Printed) : Type 0 where
  ordered : (transfers : List Transfer) (settings : List (List ℕ))
      → IsScheduleFrom source widest batch transfers settings
      → TellsOrders transfers settings only printed → IsOrdered source only batch printed
  wrong : (refusal : Refusal) → IsWrongFrom source widest batch refusal
      → IsRefused (refusal_words refusal) printed → IsOrdered source only batch printed
