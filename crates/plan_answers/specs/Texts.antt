-- The texts of a batch and of a schedule, which `check`, `draw` and `switch` read.
use Rattle.std.specs.Prelude.{◌≡◌, ℕ, List, Option}
use Rattle.batch.specs.declared.fault.BatchFault.{BatchFault}
use Rattle.batch.specs.declared.transfer.Transfer.{Transfer}
use Rattle.batch.specs.ShapeView.{ShapeView}
use Rattle.batch.specs.Faults.{IsFirstFault}
use Rattle.batch.specs.Text.{Denotes}
use Rattle.link_graph.specs.Certificates.{Naming}
use Rattle.link_graph.specs.ScheduleFaults.{IsFirstBadLine}
use Rattle.link_graph.specs.ScheduleText.{said, Says}
use Rattle.refusals.specs.declared.refusal.Refusal.{Refusal}
use Rattle.refusals.specs.declared.refusal.Refusal.TheVariants.{ScheduleLine}
use Rattle.refusals.specs.Sources.{of_batch}

-- the texts are those of this batch, and of this schedule with its certificate, if it has one
pub record AreTexts (shape : ShapeView) (batch schedule : List ℕ) (transfers : List Transfer)
    (settings : List (List ℕ)) (certificate : Option Naming) : Type 0 where
  pub batch_read : Denotes shape batch transfers
  pub schedule_read : Says schedule (said settings certificate)

-- what is first wrong with the texts: the first fault of the batch text, or after that the first
-- line at fault of the schedule text
pub data IsTextWrong (shape : ShapeView) (batch schedule : List ℕ) (refusal : Refusal) : Type 0
  where
    batch_wrong : (fault : BatchFault) → IsFirstFault shape batch fault
        → refusal ≡ of_batch fault → IsTextWrong shape batch schedule refusal
    schedule_wrong : (transfers : List Transfer) (line : ℕ) → Denotes shape batch transfers
        → IsFirstBadLine schedule line → refusal ≡ ScheduleLine line
        → IsTextWrong shape batch schedule refusal
