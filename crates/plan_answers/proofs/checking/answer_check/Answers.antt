use Rattle.std.proofs.lemmas.Result.{IfOk-weaker}
use Rattle.batch.specs.ShapeView.{widest}
use Rattle.batch.proofs.Shapes.{widest_shape}
use Rattle.plan_answers.specs.Answers.{IsChecked, IsOnly, unread, refused}
use Rattle.plan_answers.specs.Refusals.{Refuses}
use Rattle.plan_answers.proofs.OneVerdict.{one_verdict}
use Rattle.plan_answers.proofs.checking.answer_check.Goals as goal

pub returns-in-Ok-clause-one : goal.returns-in-Ok-clause-one
returns-in-Ok-clause-one c =
    let Is = IsChecked widest c.args.batch.now c.args.schedule.now in
    IfOk-weaker c.answer_texts.result Is (IsOnly Is)
    (λ p is other. one_verdict widest widest_shape c.args.batch.now c.args.schedule.now p other is)
    (c.answer_texts.ensures c.args.batch.now c.args.schedule.now c.in-Ok.ensures.texts)

pub returns-in-Err-clause-checked : goal.returns-in-Err-clause-checked
returns-in-Err-clause-checked c =
    IfOk-weaker c.refused.result (Refuses c.in-Err.refusal) (IsChecked widest c.args.batch.now c.args.schedule.now)
    (λ p is. refused c.in-Err.refusal (unread (c.in-Err.ensures.wrong is.0)) is.1) c.refused.ensures

pub returns-in-Err-clause-one : goal.returns-in-Err-clause-one
returns-in-Err-clause-one c =
    let Is = IsChecked widest c.args.batch.now c.args.schedule.now in
    IfOk-weaker c.refused.result Is (IsOnly Is)
    (λ p is other. one_verdict widest widest_shape c.args.batch.now c.args.schedule.now p other is) (returns-in-Err-clause-checked c)
