-- A drive over ports that were opened for it and given back.
use Rattle.std.proofs.Common.{◌≡◌, ◌≢◌, ◌<◌, [], ℕ, List, Option, Some, Result, IfOk, ap, refl, subst, ◌∙◌}
use Rattle.std.proofs.lemmas.Result.{IfOk-weaker}
use Rattle.batch.specs.ShapeView.{widest}
use Rattle.batch.specs.declared.transfer.Transfer.{Transfer}
use Rattle.crossbar.specs.declared.port.ConfigPort.{Ghosts}
use Rattle.switch_driver.specs.Driving.{HasDriveCause, IsDriven}
use Rattle.switch_driver.specs.Hearings.{Hearing}
use Rattle.switch_driver.specs.declared.driving.DriveOutcome.{DriveOutcome}
use Rattle.switch_driver.specs.declared.driving.DriveOutcome.TheVariants.{Completed, Stopped, Halted}
use Rattle.switch_settings.specs.declared.fault.SettingFault.TheVariants.{Port, Switch}
use Rattle.switch_settings.specs.declared.rack_wiring.RackWiring.{RackWiring}
use Rattle.board_wiring.specs.Boards.{IsBoardOf, IsFilled}
use Rattle.board_wiring.specs.Missing.{HasWaysOn}
use Rattle.board_wiring.specs.declared.board.Board.{Board}
use Rattle.crossbar.specs.declared.board.BoardWiring.{BoardWiring}
use Rattle.plan_answers.specs.Refusals.{Refuses}
use Rattle.plan_answers.specs.Schedules.{IsScheduleFrom}
use Rattle.plan_answers.specs.declared.source.ScheduleSource.{ScheduleSource}
use Rattle.refusals.specs.declared.refusal.Refusal.{Refusal}
use Rattle.refusals.specs.declared.refusal.Refusal.TheVariants.{NoMemory as Memory}
use Rattle.drive_answers.specs.Answers.{HasFailed, HasFailedOver, HasPortFailed, IsDriveAnswer, IsDrivenOver, IsFirstDriveWrong, is_wide_over, rack_for, wrong}
use Rattle.drive_answers.specs.declared.drive_end.DriveEnd.{DriveEnd}
use Rattle.drive_answers.specs.declared.fault.DriveFault.{DriveFault}
use Rattle.drive_answers.specs.declared.fault.DriveFault.TheVariants.{Untold as NotTold, NoMemory}
use Rattle.drive_answers.specs.Ways.{Names, Ways, given_back, opened_by}

-- ports that hadn't failed before
port_failed : {P : Type 0} (seen : Ghosts P) (rack : RackWiring) (batch : List Transfer) (settings : List (List ℕ)) (first : ℕ) (how : DriveOutcome)
    (old new : P) → seen.failures old ≡ 0 → HasDriveCause seen rack batch settings first how old new → HasPortFailed how (seen.failures new)
port_failed seen rack batch settings first (Completed count) old new none cause = cause.0 ∙ none
port_failed seen rack batch settings first (Stopped k Port) old new none cause = subst (λ (n : ℕ). n < seen.failures new) none cause
port_failed seen rack batch settings first (Stopped k (Switch found)) old new none cause = cause.1 ∙ none
port_failed seen rack batch settings first (Halted k halt) old new none cause = cause.0 ∙ none

pub driven_over : {S P : Type 0} (hears : Hearing S) (seen : Ghosts P) (rack : RackWiring) (batch : List Transfer) (settings : List (List ℕ)) (first : ℕ)
    (how : DriveOutcome) (names : Names) (was opened opens : Ways) (old new : P) (told tells : S)
    → opened ≡ opened_by names was → opens ≡ given_back (seen.passed new) (seen.failures new) opened
    → seen.passed old ≡ Some [] → seen.failures old ≡ 0 → IsDriven hears rack batch settings first how (seen.passed old) told (seen.passed new) tells
    → HasDriveCause seen rack batch settings first how old new
    → IsDrivenOver hears rack batch settings first how names was opens told tells
driven_over hears seen rack batch settings first how names was opened opens old new told tells begun given fresh none went cause =
    record {
      carried = seen.passed new;
      failed = seen.failures new;
      ways = given ∙ ap (given_back (seen.passed new) (seen.failures new)) begun;
      went = rw fresh at went;
      cause = port_failed seen rack batch settings first how old new none cause;
    }

-- a refusal of what is first wrong
pub refused_so : {S : Type 0} (hears : Hearing S) (source : ScheduleSource (List ℕ)) (text : List ℕ) (wiring : Option (List ℕ)) (first : ℕ) (names : Names)
    (was : Ways) (told : S) (r : Result DriveEnd DriveFault) (refusal : Refusal)
    → (refusal ≢ Memory → IsFirstDriveWrong source text wiring first refusal) → IfOk r (λ end. Refuses refusal end.answer)
    → IfOk r (λ end. IsDriveAnswer hears source text wiring first names was was told told end.answer)
refused_so hears source text wiring first names was told r refusal is refused =
    IfOk-weaker r _ _ (λ end refuses. wrong refusal (is refuses.0) refuses refl refl) refused

-- where there is no answer, of a schedule of the batch that the text denotes
pub failed : {S : Type 0} (hears : Hearing S) (source : ScheduleSource (List ℕ)) (text : List ℕ) (wiring : Option (List ℕ)) (first : ℕ) (names : Names)
    (was opens : Ways) (told tells : S) (board : Option Board) (filled : Option BoardWiring) (batch : List Transfer) (settings : List (List ℕ))
    → IsBoardOf wiring board → IsScheduleFrom source widest text batch settings → HasWaysOn board batch → IsFilled board filled → (fault : DriveFault)
    → HasFailedOver hears (rack_for filled (is_wide_over names batch)) batch settings first names was opens told tells fault
    → HasFailed hears source text wiring first names was opens told tells fault
failed hears source text wiring first names was opens told tells board filled batch settings is_board from has fills NotTold over =
    (board, filled, batch, settings, is_board, from, has, fills, over)
failed hears source text wiring first names was opens told tells board filled batch settings is_board from has fills NoMemory over = over
