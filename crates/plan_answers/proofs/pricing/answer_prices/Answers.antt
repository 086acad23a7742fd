use Rattle.std.proofs.Common.{ℕ, length, ap, ◌∙◌}
use Rattle.std.proofs.lemmas.Result.{IfOk-weaker}
use Rattle.batch.specs.ShapeView.{widest}
use Rattle.plan_answers.specs.Pricing.{table_text, IsPriced, priced, unpriced}
use Rattle.plan_answers.specs.Refusals.{Refuses}
use Rattle.plan_answers.specs.Validities.{IsScheduleRead}
use Rattle.plan_answers.proofs.pricing.answer_prices.Goals as goal

pub returns-in_ok-text-in-Ok : goal.returns-in_ok-text-in-Ok
returns-in_ok-text-in-Ok c =
    let texts = c.in-Ok.texts in
    let found = c.in_ok-priced-in-Ok.priced in
    let read : IsScheduleRead widest c.args.batch.now c.args.schedule.now texts.batch texts.schedule =
    record { certificate = texts.certificate; texts = c.in-Ok.ensures.texts; valid = c.in-Ok.ensures.valid } in
    let text = c.done.ensures.text ∙ ap (λ v. v.items) c.into_bytes.ensures.value ∙ c.in_ok-text-in-Ok.ensures ∙ ap (λ (n : ℕ). table_text n found)
    (c.settings.ensures ∙ ap length c.schedule-schedule.ensures.schedule) in
    priced texts.batch texts.schedule read
    (record { priced = found; table = rw (c.batch.ensures, c.schedule-schedule.ensures.schedule) at c.in_ok-priced-in-Ok.ensures; says = text })
    c.done.ensures.status

pub returns-in-Err : goal.returns-in-Err
returns-in-Err c =
    IfOk-weaker c.refused.result (Refuses c.in-Err.refusal) (IsPriced widest c.args.batch.now c.args.schedule.now)
    (λ p is. unpriced c.in-Err.refusal (c.in-Err.ensures.invalid is.0) is.1) c.refused.ensures
