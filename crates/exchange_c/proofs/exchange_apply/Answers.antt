use Rattle.rack_answers.specs.Answers.{IsApplied}
use Rattle.exchange_c.proofs.Writing.{left}
use Rattle.exchange_c.proofs.exchange_apply.Goals as goal

pub returns : goal.returns
returns c =
    let IsAnswer = IsApplied c.args.shape.now c.args.batch.now c.args.image.now in
    let is = c.answer_apply.ensures in
    left _ IsAnswer c.args.out.now c.leave.new.out c.leave.new.count c.leave.result is c.leave.ensures.some c.leave.ensures.none
