use Rattle.std.proofs.Common.{None}
use Rattle.batch.specs.ShapeView.{widest}
use Rattle.plan_answers.specs.Drawings.{IsDrawn}
use Rattle.exchange_c.proofs.Writing.{left}
use Rattle.exchange_c.proofs.exchange_draw.Goals as goal

pub returns : goal.returns
returns c =
    let is = c.answer_draw.ensures in
    left _ (IsDrawn widest c.args.batch.now c.args.schedule.now None) c.args.out.now c.leave.new.out c.leave.new.count c.leave.result is c.leave.ensures.some
    c.leave.ensures.none
