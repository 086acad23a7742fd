use Rattle.std.proofs.Common.{None, false, refl}
use Rattle.rack_answers.specs.Switching.{IsSwitched}
use Rattle.exchange_c.specs.Switching.{IsSwitchedBy}
use Rattle.exchange_c.proofs.Switching.{answered_by}
use Rattle.exchange_c.proofs.Writing.{left}
use Rattle.exchange_c.proofs.exchange_switch.Goals as goal

pub returns : goal.returns
returns c =
    let is = answered_by c.answer_switch-answer.result (λ source. IsSwitched source false None c.args.batch.now) c.args.schedule.now c.source_of-source.result
    c.source_of-source.ensures c.answer_switch-answer.ensures in
    left _ (IsSwitchedBy c.args.batch.now c.args.schedule.now) c.args.out.now c.leave.new.out c.leave.new.count c.leave.result is c.leave.ensures.some
    c.leave.ensures.none
