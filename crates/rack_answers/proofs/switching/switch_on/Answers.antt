use Rattle.std.proofs.Common.{◌||◌}
use Rattle.std.proofs.lemmas.Result.{IfOk-weaker}
use Rattle.batch.specs.ShapeView.{widest}
use Rattle.plan_answers.proofs.OneSource.{denoted}
use Rattle.plan_answers.specs.Refusals.{Refuses}
use Rattle.plan_answers.specs.Schedules.{said_by}
use Rattle.switch_settings.specs.Racks.{is_wide}
use Rattle.rack_answers.specs.Switching.{TellsSwitch, IsSwitched, lacking, switched, wrong}
use Rattle.rack_answers.proofs.ReadBatches.{all_joined}
use Rattle.rack_answers.proofs.switching.switch_on.Goals as goal

pub switch_answer-requires-clause-batch : goal.switch_answer-requires-clause-batch
switch_answer-requires-clause-batch g c =
    let its = c.in-Ok.scheduled in
    let denotes = denoted (said_by c.args.source) widest c.args.batch.now its.batch its.settings c.in-Ok.ensures.schedule in
    rw c.batch-batch.ensures (record { few = denotes.few; within = denotes.within })

pub switch_answer-requires-clause-modules : goal.switch_answer-requires-clause-modules
switch_answer-requires-clause-modules g c =
    let its = c.in-Ok.scheduled in
    let board = c.args.board.now in
    let denotes = denoted (said_by c.args.source) widest c.args.batch.now its.batch its.settings c.in-Ok.ensures.schedule in
    let has = (rw c.in_default.is at c.in_ok-lack.ensures.none) its.batch denotes in
    rw (c.has_switch_b-wide.ensures, c.batch-batch.ensures)
    (all_joined board c.wiring_of.result c.args.has_two its.batch (record { few = denotes.few; within = denotes.within }) c.wiring_of.ensures has)

pub returns-in-Some : goal.returns-in-Some
returns-in-Some g c =
    let lack = c.in-Some.lack in
    let found = rw c.in-Some.is at c.in_ok-lack.ensures.some in
    IfOk-weaker c.refused.result (Refuses lack) (IsSwitched (said_by c.args.source) c.args.has_two c.args.board.now c.args.batch.now)
    (λ p is. lacking lack found is.1) c.refused.ensures

pub returns-in-Ok : goal.returns-in-Ok
returns-in-Ok g c =
    let its = c.in-Ok.scheduled in
    let board = c.args.board.now in
    let tells = rw (c.has_switch_b-wide.ensures, c.batch-batch.ensures, c.schedule-schedule.ensures.schedule) at c.switch_answer.ensures in
    let from = c.in-Ok.ensures.schedule in
    let has = (rw c.in_default.is at c.in_ok-lack.ensures.none) its.batch (denoted (said_by c.args.source) widest c.args.batch.now its.batch its.settings
    from) in
    IfOk-weaker c.switch_answer.result (TellsSwitch c.wiring_of.result (c.args.has_two || is_wide its.batch) its.batch its.settings)
    (IsSwitched (said_by c.args.source) c.args.has_two board c.args.batch.now)
    (λ p told. switched c.wiring_of.result its.batch its.settings from has c.wiring_of.ensures told) tells

pub returns-in-Err : goal.returns-in-Err
returns-in-Err g c =
    IfOk-weaker c.refused-in-Err.result (Refuses c.in-Err.refusal) (IsSwitched (said_by c.args.source) c.args.has_two c.args.board.now c.args.batch.now)
    (λ p is. wrong c.in-Err.refusal (c.in-Err.ensures.wrong is.0) (rw c.in_default.is at c.in_ok-lack.ensures.none) is.1) c.refused-in-Err.ensures
