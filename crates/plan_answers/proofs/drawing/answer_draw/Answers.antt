use Rattle.std.proofs.Common.{◌∙◌, ap, refl}
use Rattle.std.proofs.lemmas.Result.{IfOk-weaker}
use Rattle.batch.specs.ShapeView.{widest}
use Rattle.plan_answers.specs.Drawings.{IsDrawn, drawn, undrawn}
use Rattle.plan_answers.specs.Lent.{bytes_of}
use Rattle.plan_answers.specs.Refusals.{Refuses}
use Rattle.plan_answers.proofs.drawing.answer_draw.Goals as goal

pub returns-in-Ok : goal.returns-in-Ok
returns-in-Ok c =
    let text = c.done.ensures.text ∙ ap (λ v. v.items) c.into_bytes.ensures.value in
    (_, drawn (rw text c.in-Ok.ensures.drawn) refl c.done.ensures.status)

pub returns-in-Err : goal.returns-in-Err
returns-in-Err c =
    IfOk-weaker c.refused.result (Refuses c.in-Err.refusal) (IsDrawn widest c.args.batch.now c.args.schedule.now (bytes_of c.args.settings))
    (λ p is. (0, undrawn c.in-Err.refusal (c.in-Err.ensures.wrong is.0) is.1)) c.refused.ensures
