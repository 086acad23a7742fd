use Rattle.std.proofs.Common.{◌∙◌, ap}
use Rattle.batch.specs.ShapeView.{widest}
use Rattle.plan_answers.specs.Answers.{unshown, shortest, refused}
use Rattle.plan_answers.proofs.OneVerdict.{shown_from}
use Rattle.plan_answers.proofs.checking.answer_texts.Goals as goal

pub returns-in_ok-line-in-Ok : goal.returns-in_ok-line-in-Ok
returns-in_ok-line-in-Ok c batch schedule says =
    let texts = c.args.texts.now in
    let count = c.in-Ok.settings in
    let line = c.done.ensures.text ∙ ap (λ v. v.items) c.into_bytes.ensures.value ∙ c.in_ok-line-in-Ok.ensures.ok in
    shortest count (shown_from widest batch schedule texts.batch texts.schedule texts.certificate count says c.in-Ok.ensures.certified c.in-Ok.ensures.settings)
    line c.done.ensures.status

pub returns-in_ok-answer-in-Err : goal.returns-in_ok-answer-in-Err
returns-in_ok-answer-in-Err c batch schedule says =
    let texts = c.args.texts.now in
    let is = c.in_ok-answer-in-Err.ensures in
    rw c.with_validity.ensures (refused c.in-Err.refusal (unshown texts.batch texts.schedule texts.certificate says (c.in-Err.ensures.wrong is.0)) is.1)
