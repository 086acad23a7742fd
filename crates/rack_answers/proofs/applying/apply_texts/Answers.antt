use Rattle.std.proofs.Common.{◌≢◌, Some, ap, refl}
use Rattle.std.proofs.lemmas.Result.{err_from_is_err_and, IfOk-weaker, IfErr-weaker}
use Rattle.batch.specs.Overlap.{IsApart}
use Rattle.module_memory.specs.Placing.{IsPlacedImage}
use Rattle.plan_answers.specs.declared.source.Planning.TheVariants.{Plain}
use Rattle.plan_answers.specs.declared.source.ScheduleSource.TheVariants.{Plan}
use Rattle.rack_answers.specs.Answers.{IsImage, IsResult, IsWrongOf, IsFirstRunWrong, texts_wrong, run_wrong}
use Rattle.refusals.specs.declared.refusal.Refusal.TheVariants.{NoMemory}
use Rattle.refusals.specs.Sources.{of_batch}
use Rattle.rack_answers.proofs.Fitting.{fits_in}
use Rattle.rack_answers.proofs.applying.apply_texts.Goals as goal

pub returns-in_err-batch-clause-wrong : goal.returns-in_err-batch-clause-wrong
returns-in_err-batch-clause-wrong c =
    let fault = c.in_err-batch.field-0.0 in
    let p = err_from_is_err_and c.from_residual-in_err-batch.result c.from_residual-in_err-batch.ensures.1 in
    rw (p.1, p.2) (λ real. texts_wrong c.in_ok-shape.shape c.in_ok-shape.ensures.shape (fault, c.in_err-batch.ensures.fault (λ e. real (ap of_batch e)), refl))

pub apply_batch-requires : goal.apply_batch-requires
apply_batch-requires c = record { fits = fits_in c.in_ok-shape.shape c.args.batch.now c.in_ok-batch.batch c.in_ok-batch.ensures.batch }

pub returns-clause-result : goal.returns-clause-result
returns-clause-result c =
    let batch = c.in_ok-batch.batch in
    let shape = c.in_ok-shape.shape in
    let image = c.args.image.now in
    IfOk-weaker c.apply_batch.result (λ text. IsApart batch × IsPlacedImage shape image batch text.items)
    (λ text. IsResult IsImage c.args.shape.now c.args.batch.now (Some image) text.items)
    (λ text is. record {
      extent = shape;
      transfers = batch;
      left = is.1.new;
      shape_read = c.in_ok-shape.ensures.shape;
      batch_read = c.in_ok-batch.ensures.batch;
      is_left = record { opening = is.1.old; apart = is.0; is_opening = is.1.is_old; is_placed = is.1.is_new };
      told = is.1.image_is;
    }) c.apply_batch.ensures.placed

pub returns-clause-wrong : goal.returns-clause-wrong
returns-clause-wrong c =
    let batch = c.in_ok-batch.batch in
    let shape = c.in_ok-shape.shape in
    let image = Some c.args.image.now in
    IfErr-weaker c.apply_batch.result (λ e. e ≢ NoMemory → IsWrongOf shape image batch e)
    (λ e. e ≢ NoMemory → IsFirstRunWrong (Plan Plain) c.args.shape.now c.args.batch.now image e)
    (λ e wrong real. run_wrong shape batch c.in_ok-shape.ensures.shape c.in_ok-batch.ensures.batch (wrong real)) c.apply_batch.ensures.wrong
