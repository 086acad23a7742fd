use Rattle.plan_answers.specs.Schedules.{said_by}
use Rattle.exchange_c.specs.Switching.{IsSwitchedOn}
use Rattle.exchange_c.proofs.Switching.{switched_on}
use Rattle.exchange_c.proofs.Writing.{left}
use Rattle.exchange_c.proofs.exchange_switch_wired.Goals as goal

pub returns : goal.returns
returns c =
    let is = switched_on c.answer_switch-answer.result c.args.wiring.now c.args.batch.now c.args.schedule.now (said_by c.source_of-source.result)
    c.source_of-source.ensures c.answer_switch-answer.ensures in
    left _ (IsSwitchedOn c.args.wiring.now c.args.batch.now c.args.schedule.now) c.args.out.now c.leave.new.out c.leave.new.count c.leave.result is
    c.leave.ensures.some c.leave.ensures.none
