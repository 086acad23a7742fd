use Rattle.std.proofs.Common.{◌≢◌, ap, refl}
use Rattle.std.proofs.lemmas.Result.{err_from_is_err_and, IfErr-weaker}
use Rattle.plan_answers.specs.Lent.{bytes_of}
use Rattle.refusals.specs.Sources.{of_image}
use Rattle.refusals.specs.declared.refusal.Refusal.TheVariants.{NoMemory}
use Rattle.rack_answers.specs.Answers.{IsOverlapOf, IsWrongOf, image_wrong, overlapping}
use Rattle.rack_answers.proofs.Openings.{opening_shape, right_image}
use Rattle.rack_answers.proofs.Ran.{left_by}
use Rattle.rack_answers.proofs.running.run_on.Goals as goal

pub returns-in_err-rack-clause-wrong : goal.returns-in_err-rack-clause-wrong
returns-in_err-rack-clause-wrong g c =
    let fault = c.in_err-rack.field-0.0 in
    let p = err_from_is_err_and c.from_residual.result c.from_residual.ensures.1 in
    rw (p.1, p.2) (λ real. image_wrong fault (c.in_err-rack.ensures.wrong (λ e. real (ap of_image e))) refl)

pub run_plain-requires-clause-fits : goal.run_plain-requires-clause-fits
run_plain-requires-clause-fits g c κs within =
    rw (opening_shape c.args.shape (bytes_of c.args.image) c.in_ok-rack.rack c.in_ok-rack.ensures.rack, c.batch.ensures) c.requires.fits

pub returns-clause-left : goal.returns-clause-left
returns-clause-left g c =
    left_by c.run_plain.result c.args.shape (bytes_of c.args.image) c.in_ok-rack.rack c.args.scheduled.now.batch c.in_ok-rack.ensures.rack
    (rw c.batch.ensures at c.run_plain.ensures.placed) (rw c.batch.ensures at c.run_plain.ensures.apart)

pub returns-clause-wrong : goal.returns-clause-wrong
returns-clause-wrong g c =
    let batch = c.args.scheduled.now.batch in
    let image = bytes_of c.args.image in
    let right = right_image c.args.shape image c.in_ok-rack.rack c.in_ok-rack.ensures.rack in
    IfErr-weaker c.run_plain.result (λ e. e ≢ NoMemory → IsOverlapOf batch e) (λ e. e ≢ NoMemory → IsWrongOf c.args.shape image batch e)
    (λ e wrong real. overlapping right (wrong real)) (rw c.batch.ensures at c.run_plain.ensures.wrong)
