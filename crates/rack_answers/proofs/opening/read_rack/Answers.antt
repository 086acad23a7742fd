use Rattle.std.proofs.Common.{ap, refl}
use Rattle.std.proofs.lemmas.Result.{err_from_is_err_and}
use Rattle.refusals.specs.Sources.{of_image}
use Rattle.rack_answers.specs.Openings.{image_wrong}
use Rattle.rack_answers.proofs.opening.read_rack.Goals as goal

pub returns-in_err-opening_rack-clause-wrong : goal.returns-in_err-opening_rack-clause-wrong
returns-in_err-opening_rack-clause-wrong c =
    let p = err_from_is_err_and c.from_residual-in_err-opening_rack.result c.from_residual-in_err-opening_rack.ensures.1 in
    rw (p.1, p.2) (λ real. image_wrong c.in_ok-shape.shape c.in_err-opening_rack.field-0.0 c.in_ok-shape.ensures.shape
    (c.in_err-opening_rack.ensures.wrong (λ e. real (ap of_image e))) refl)
