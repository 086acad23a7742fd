use Rattle.std.proofs.lemmas.Result.{IfOk-weaker}
use Rattle.plan_answers.specs.Refusals.{Refuses}
use Rattle.rack_answers.specs.Answers.{IsApplied, ran, run_refused}
use Rattle.rack_answers.proofs.applying.answer_apply.Goals as goal

pub returns-in-Ok : goal.returns-in-Ok
returns-in-Ok c = ran (rw c.done.ensures.text c.in-Ok.ensures.result) c.done.ensures.status

pub returns-in-Err : goal.returns-in-Err
returns-in-Err c =
    IfOk-weaker c.refused.result (Refuses c.in-Err.refusal) (IsApplied c.args.shape.now c.args.batch.now c.args.image.now)
    (λ p is. run_refused c.in-Err.refusal (c.in-Err.ensures.wrong is.0) is.1) c.refused.ensures
