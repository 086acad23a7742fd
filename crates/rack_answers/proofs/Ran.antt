-- What is printed of a run.
use Rattle.std.proofs.Common.{◌≡◌, ℕ, List, Option, Result, Ok, Err, IfOk}
use Rattle.batch.specs.declared.transfer.Transfer.{Transfer}
use Rattle.batch.specs.ShapeView.{ShapeView}
use Rattle.batch.specs.Overlap.{IsApart}
use Rattle.module_memory.specs.Core.{IsPlaced}
use Rattle.module_memory.specs.Store.{Store}
use Rattle.plan_answers.specs.Schedules.{BatchSchedule}
use Rattle.plan_answers.specs.declared.source.ScheduleSource.{ScheduleSource}
use Rattle.plan_answers.proofs.OneSource.{denoted}
use Rattle.rack_answers.specs.Answers.{IsLeftBy, HasRunFrom, IsReport, IsResult}
use Rattle.rack_answers.specs.Openings.{IsOfImageOrMarked}
use Rattle.rack_answers.specs.Reports.{report_for}

-- a run that is completed leaves what it places
pub left_by : {E : Type 0} (r : Result Store E) (extent : ShapeView) (image : Option (List ℕ)) (opening : Store) (ts : List Transfer)
    → IsOfImageOrMarked extent image opening → IfOk r (IsPlaced opening ts) → IfOk r (λ _. IsApart ts) → IfOk r (IsLeftBy extent image ts)
left_by (Ok left) extent image opening ts is placed apart = record { opening = opening; apart = apart; is_opening = is; is_placed = placed }
left_by (Err e) extent image opening ts is placed apart = tt

-- a report is one of the schedule that was run
pub reported : (source : ScheduleSource (List ℕ)) (shape batch : List ℕ) (image : Option (List ℕ)) (schedule : BatchSchedule) (left : Store) (text : List ℕ)
    → HasRunFrom source shape batch image schedule left → text ≡ report_for source schedule.batch schedule.settings left
    → IsResult (IsReport source) shape batch image text
reported source shape batch image schedule left text ran printed = record {
  extent = ran.extent;
  transfers = schedule.batch;
  left = left;
  shape_read = ran.shape_read;
  batch_read = denoted source ran.extent batch schedule.batch schedule.settings ran.scheduled;
  is_left = ran.is_left;
  told = record { settings = schedule.settings; scheduled = ran.scheduled; printed = printed };
}
