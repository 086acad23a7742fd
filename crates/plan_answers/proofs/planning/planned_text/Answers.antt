use Rattle.std.proofs.Common.{◌≡◌, Some}
use Rattle.std.proofs.lemmas.Result.{IfOk-weaker}
use Rattle.link_graph.specs.ScheduleText.{said, said_text}
use Rattle.schedule_certificate.specs.Plans.{IsMadePlan}
use Rattle.plan_answers.specs.Answers.{SaysPlan}
use Rattle.plan_answers.specs.declared.source.Planning.TheVariants.{Plain}
use Rattle.plan_answers.proofs.PlanText.{plan_can_say, says_plan}
use Rattle.plan_answers.proofs.planning.planned_text.Goals as goal

pub write-requires-clause-named : goal.write-requires-clause-named
write-requires-clause-named c =
    let plan = c.args.planned.now in
    let is : IsMadePlan plan = (c.schedule.ensures.plan, c.reinserted-few.ensures.few) in
    rw c.certificate.ensures.certificate (plan_can_say Plain plan.batch plan.settings plan.named is.0.fits (plan.reinserted, is)).names_fit

pub returns : goal.returns
returns c =
    let plan = c.args.planned.now in
    let is : IsMadePlan plan = (c.schedule.ensures.plan, c.reinserted-few.ensures.few) in
    IfOk-weaker c.write.result (λ text. text.items ≡ said_text (said plan.settings (Some plan.named))) (λ text. SaysPlan Plain plan.batch text.items)
    (λ text spelled. says_plan Plain plan.batch plan.settings plan.named text.items is.0.fits (plan.reinserted, is) spelled)
    (rw (c.schedule.ensures.schedule, c.certificate.ensures.certificate) at c.write.ensures)
