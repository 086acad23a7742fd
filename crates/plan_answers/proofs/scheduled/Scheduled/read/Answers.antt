use Rattle.std.proofs.Common.{ap, refl}
use Rattle.std.proofs.lemmas.Result.{err_from_is_err_and}
use Rattle.refusals.specs.Sources.{of_batch}
use Rattle.plan_answers.proofs.scheduled.Scheduled.read.Goals as goal

pub returns-in_err-batch-in-Plan-clause-wrong : goal.returns-in_err-batch-in-Plan-clause-wrong
returns-in_err-batch-in-Plan-clause-wrong g c =
    let fault = c.in_err-batch-in-Plan.field-0.0 in
    let p = err_from_is_err_and c.from_residual.result c.from_residual.ensures.1 in
    rw (c.in-Plan.is, p.1, p.2) (λ real. (fault, c.in_err-batch-in-Plan.ensures.fault (λ e. real (ap of_batch e)), refl))

pub returns-in_err-read-in-Text-clause-wrong : goal.returns-in_err-read-in-Text-clause-wrong
returns-in_err-read-in-Text-clause-wrong g c =
    let p = err_from_is_err_and c.from_residual-in_err-read-in-Text.result c.from_residual-in_err-read-in-Text.ensures.1 in
    rw (c.in-Text.is, p.1, p.2) (λ real. c.in_err-read-in-Text.ensures.invalid real)
