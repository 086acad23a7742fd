-- The texts of a batch and of a schedule's source say one batch, or have one first fault.
use Rattle.std.proofs.Common.{◌≡◌, ℕ, List, ap, sym, ◌∙◌}
use Rattle.batch.specs.ShapeView.{ShapeView, IsShape}
use Rattle.batch.specs.Text.{Denotes}
use Rattle.batch.specs.declared.transfer.Transfer.{Transfer}
use Rattle.batch.proofs.OneReading.{apart, one_fault}
use Rattle.refusals.specs.declared.refusal.Refusal.{Refusal}
use Rattle.refusals.specs.Sources.{of_batch}
use Rattle.plan_answers.specs.Schedules.{AreRight, IsScheduleFrom, IsWrongFrom}
use Rattle.plan_answers.specs.declared.source.ScheduleSource.{ScheduleSource}
use Rattle.plan_answers.specs.declared.source.ScheduleSource.TheVariants.{Plan, Text}
use Rattle.plan_answers.proofs.OneDrawing.{read_right, one_invalid}

-- of a schedule the texts are right
pub from_right : (source : ScheduleSource (List ℕ)) (shape : ShapeView) (text : List ℕ) (batch : List Transfer) (settings : List (List ℕ))
    → IsScheduleFrom source shape text batch settings → AreRight source shape text batch
from_right (Plan planning) shape text batch settings is = is.0
from_right (Text schedule) shape text batch settings is = (settings, is)

-- and the batch is the one that its text denotes
pub right_denoted : (source : ScheduleSource (List ℕ)) (shape : ShapeView) (text : List ℕ) (batch : List Transfer) → AreRight source shape text batch
    → Denotes shape text batch
right_denoted (Plan planning) shape text batch is = is
right_denoted (Text schedule) shape text batch is = is.1.texts.batch_read

pub denoted : (source : ScheduleSource (List ℕ)) (shape : ShapeView) (text : List ℕ) (batch : List Transfer) (settings : List (List ℕ))
    → IsScheduleFrom source shape text batch settings → Denotes shape text batch
denoted source shape text batch settings is = right_denoted source shape text batch (from_right source shape text batch settings is)

-- texts that are right have nothing wrong
pub right_or_wrong : (source : ScheduleSource (List ℕ)) (shape : ShapeView) → IsShape shape → (text : List ℕ) (batch : List Transfer) (refusal : Refusal)
    → AreRight source shape text batch → IsWrongFrom source shape text refusal → ⊥
right_or_wrong (Plan planning) shape valid text batch refusal is wrong = apart shape valid text batch wrong.0 is wrong.1
right_or_wrong (Text schedule) shape valid text batch refusal is wrong = read_right shape valid text schedule batch is.0 refusal is.1 wrong

-- there is one first fault
pub one_wrong_from : (source : ScheduleSource (List ℕ)) (shape : ShapeView) → IsShape shape → (text : List ℕ) (q r : Refusal) → IsWrongFrom source shape text q
    → IsWrongFrom source shape text r → q ≡ r
one_wrong_from (Plan planning) shape valid text q r a b = a.2 ∙ ap of_batch (one_fault shape valid text a.0 b.0 a.1 b.1) ∙ sym b.2
one_wrong_from (Text schedule) shape valid text q r a b = one_invalid shape valid text schedule q r a b
