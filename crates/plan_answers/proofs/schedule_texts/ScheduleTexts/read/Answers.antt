use Rattle.std.proofs.lemmas.Result.{err_from_is_err_and}
use Rattle.plan_answers.specs.Validities.{unread, unscheduled}
use Rattle.plan_answers.proofs.schedule_texts.ScheduleTexts.read.Goals as goal

pub returns-in_err-texts-clause-invalid : goal.returns-in_err-texts-clause-invalid
returns-in_err-texts-clause-invalid c =
    let p = err_from_is_err_and c.from_residual.result c.from_residual.ensures.1 in
    rw (p.1, p.2) (λ real. unread (c.in_err-texts.ensures.wrong real))

pub returns-in_err-standing-clause-invalid : goal.returns-in_err-standing-clause-invalid
returns-in_err-standing-clause-invalid c =
    let texts = c.in_ok-texts.texts in
    let p = err_from_is_err_and c.from_residual-in_err-standing.result c.from_residual-in_err-standing.ensures.1 in
    rw (p.1, p.2) (λ real. unscheduled texts.batch texts.schedule texts.certificate c.in_ok-texts.ensures.texts (c.in_err-standing.ensures.wrong real))
