use Rattle.std.proofs.Common.{ap, refl}
use Rattle.std.proofs.lemmas.Result.{err_from_is_err_and}
use Rattle.refusals.specs.Sources.{of_batch}
use Rattle.plan_answers.specs.Texts.{batch_wrong}
use Rattle.plan_answers.proofs.OneReading.{schedule_at_fault}
use Rattle.plan_answers.proofs.texts.ReadTexts.read.Goals as goal

pub returns-in_err-batch-clause-wrong : goal.returns-in_err-batch-clause-wrong
returns-in_err-batch-clause-wrong c =
    let fault = c.in_err-batch.field-0.0 in
    let p = err_from_is_err_and c.from_residual.result c.from_residual.ensures.1 in
    rw (p.1, p.2) (λ real. batch_wrong fault (c.in_err-batch.ensures.fault (λ e. real (ap of_batch e))) refl)

pub returns-in_err-schedule-clause-wrong : goal.returns-in_err-schedule-clause-wrong
returns-in_err-schedule-clause-wrong c =
    let p = err_from_is_err_and c.from_residual-in_err-schedule.result c.from_residual-in_err-schedule.ensures.1 in
    rw (p.1, p.2) (schedule_at_fault c.args.shape c.args.batch.now c.args.schedule.now c.in_ok-batch.batch c.in_ok-batch.ensures.batch
    c.in_err-schedule.field-0.0 c.in_err-schedule.ensures.fault)
