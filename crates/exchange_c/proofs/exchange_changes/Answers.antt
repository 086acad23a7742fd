use Rattle.batch.specs.ShapeView.{widest}
use Rattle.plan_answers.specs.Counting.{IsCounted}
use Rattle.exchange_c.proofs.Writing.{left}
use Rattle.exchange_c.proofs.exchange_changes.Goals as goal

pub returns : goal.returns
returns c =
    let is = c.answer_changes.ensures in
    left _ (IsCounted widest c.args.batch.now c.args.schedule.now) c.args.out.now c.leave.new.out c.leave.new.count c.leave.result is c.leave.ensures.some
    c.leave.ensures.none
