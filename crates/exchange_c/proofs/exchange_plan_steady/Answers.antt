use Rattle.batch.specs.ShapeView.{widest}
use Rattle.plan_answers.specs.Answers.{IsPlanned}
use Rattle.plan_answers.specs.declared.source.Planning.TheVariants.{Steady}
use Rattle.exchange_c.proofs.Writing.{left}
use Rattle.exchange_c.proofs.exchange_plan_steady.Goals as goal

pub returns : goal.returns
returns c = left _ (IsPlanned Steady widest c.args.batch.now) c.args.out.now c.leave.new.out c.leave.new.count c.leave.result c.answer_plan-answer.ensures.planned
    c.leave.ensures.some c.leave.ensures.none
