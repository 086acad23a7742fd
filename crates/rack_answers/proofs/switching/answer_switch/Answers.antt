use Rattle.std.proofs.Common.{Bool, Option, List, ℕ}
use Rattle.std.proofs.lemmas.Result.{IfOk-weaker}
use Rattle.board_wiring.specs.Sources.{of_wiring}
use Rattle.board_wiring.specs.declared.board.Board.{Board}
use Rattle.plan_answers.specs.Lent.{bytes_of}
use Rattle.plan_answers.specs.Refusals.{Refuses, Printed}
use Rattle.plan_answers.specs.Schedules.{said_by}
use Rattle.plan_answers.specs.declared.source.ScheduleSource.{ScheduleSource}
use Rattle.rack_answers.specs.Switching.{IsOn, IsSwitched}
use Rattle.rack_answers.proofs.OnBoards.{on_board, on_fault}
use Rattle.rack_answers.proofs.switching.answer_switch.Goals as goal

abbrev By : ScheduleSource (List ℕ) → Bool → List ℕ → Option Board → Printed → Type 0
By source has_two batch board = IsSwitched source has_two board batch

pub returns-in-Ok : goal.returns-in-Ok
returns-in-Ok g c =
    let Is = By (said_by c.args.source) c.args.has_two c.args.batch.now in
    IfOk-weaker c.switch_on.result (Is c.in-Ok.board) (IsOn Is (bytes_of c.args.wiring))
    (λ p is. on_board Is c.args.wiring c.in-Ok.board p c.in-Ok.ensures.board is) c.switch_on.ensures

pub returns-in-Err : goal.returns-in-Err
returns-in-Err g c =
    let Is = By (said_by c.args.source) c.args.has_two c.args.batch.now in
    let refuses = rw c.into.ensures at c.refused.ensures in
    IfOk-weaker c.refused.result (Refuses (of_wiring c.in-Err.fault)) (IsOn Is (bytes_of c.args.wiring))
    (λ p is. on_fault Is c.args.wiring c.in-Err.fault p c.in-Err.ensures.fault is.1) refuses
