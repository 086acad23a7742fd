use Rattle.std.proofs.Common.{◌≡◌, Some}
use Rattle.std.proofs.lemmas.Result.{IfOk-weaker}
use Rattle.batch.specs.Batches.{IsBatch}
use Rattle.link_graph.specs.ScheduleText.{said, said_text}
use Rattle.plan_answers.specs.Answers.{SaysPlan}
use Rattle.plan_answers.specs.declared.source.Planning.TheVariants.{Steady}
use Rattle.plan_answers.proofs.PlanText.{plan_can_say, says_plan}
use Rattle.plan_answers.proofs.planning.plan_text.Goals as goal

pub write-requires : goal.write-requires
write-requires g c =
    let plan = c.in_ok-plan-in-Steady.plan in
    let its = c.in_ok-plan-in-Steady.ensures in
    let fits : IsBatch plan.batch = rw (its.batch, ← c.batch.view_is) c.batch.invariant in
    let says = plan_can_say Steady plan.batch plan.settings plan.named fits its.steady in
    record { settings = rw c.schedule.ensures.schedule says.settings_fit; named = rw c.certificate.ensures.certificate says.names_fit }

pub returns-in_ok-plan-in-Steady-clause-says : goal.returns-in_ok-plan-in-Steady-clause-says
returns-in_ok-plan-in-Steady-clause-says g c =
    let plan = c.in_ok-plan-in-Steady.plan in
    let its = c.in_ok-plan-in-Steady.ensures in
    let fits : IsBatch plan.batch = rw (its.batch, ← c.batch.view_is) c.batch.invariant in
    rw (c.in-Steady.is, ← its.batch)
    (IfOk-weaker c.write.result (λ text. text.items ≡ said_text (said plan.settings (Some plan.named))) (λ text. SaysPlan Steady plan.batch text.items)
    (λ text spelled. says_plan Steady plan.batch plan.settings plan.named text.items fits its.steady spelled)
    (rw (c.schedule.ensures.schedule, c.certificate.ensures.certificate) at c.write.ensures))
