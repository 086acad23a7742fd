use Rattle.std.proofs.Common.{refl}
use Rattle.std.proofs.lemmas.Result.{err_from_is_err_and}
use Rattle.rack_answers.specs.Answers.{image_wrong, overlapping}
use Rattle.rack_answers.proofs.Openings.{image_fault_is}
use Rattle.rack_answers.proofs.applying.apply_batch.Goals as goal

pub returns-in_err-check_image-clause-wrong : goal.returns-in_err-check_image-clause-wrong
returns-in_err-check_image-clause-wrong c =
    let fault = c.in_err-check_image.field-0.0 in
    let p = err_from_is_err_and c.from_residual.result c.from_residual.ensures.1 in
    rw (p.1, p.2)
    (λ real. image_wrong fault (image_fault_is c.args.shape c.args.image.now fault c.in_err-check_image.ensures.fault c.in_err-check_image.ensures.known)
    refl)

pub returns-in-Some-clause-wrong : goal.returns-in-Some-clause-wrong
returns-in-Some-clause-wrong c = λ real. overlapping c.in_ok-check_image.ensures.whole (c.in-Some.i, c.in-Some.j, c.in-Some.ensures.first, refl)
