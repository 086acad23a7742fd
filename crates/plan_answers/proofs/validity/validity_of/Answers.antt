use Rattle.plan_answers.specs.Validities.{unscheduled}
use Rattle.plan_answers.proofs.WrongCertificates.{valid_then}
use Rattle.plan_answers.proofs.validity.validity_of.Goals as goal

pub returns-in_default-wrong : goal.returns-in_default-wrong
returns-in_default-wrong c batch schedule says =
    let texts = c.args.texts.now in
    (c.in-Err.wrong, unscheduled texts.batch texts.schedule texts.certificate says (c.in-Err.ensures.wrong c.in_default-wrong.not-NoMemory))

pub enough_for-requires-in-CheckWrongLink : goal.enough_for-requires-in-CheckWrongLink
enough_for-requires-in-CheckWrongLink c =
    let texts = c.args.texts.now in
    valid_then texts.batch texts.schedule texts.certificate c.args.refusal c.requires c.in-CheckWrongLink.is
