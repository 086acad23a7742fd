use Rattle.plan_answers.proofs.scheduled.Scheduled.plan.Goals as goal

pub returns-in_ok-plan-in-Steady-clause-plan : goal.returns-in_ok-plan-in-Steady-clause-plan
returns-in_ok-plan-in-Steady-clause-plan g c =
    let plan = c.in_ok-plan-in-Steady.plan in
    let its = c.in_ok-plan-in-Steady.ensures in
    rw (c.in-Steady.is, ← its.batch) (plan.named, its.steady)
