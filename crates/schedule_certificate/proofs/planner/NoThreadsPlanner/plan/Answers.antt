use Rattle.std.proofs.Common.{arith}
use Rattle.schedule_certificate.proofs.planner.NoThreadsPlanner.plan.Goals as goal

pub returns-in_err-coloured-clause-cost : goal.returns-in_err-coloured-clause-cost
returns-in_err-coloured-clause-cost c k low =
    let took = rw c.in_ok-graph.ensures.graph at (c.colour_all_alone.ensures.cost k (rw c.in_ok-graph.ensures.graph low)) in
    omega (arith, took, c.of_in_steps.ensures.cost)

pub returns-clause-cost : goal.returns-clause-cost
returns-clause-cost c k low =
    let same = c.in_ok-graph.ensures.graph in
    let took = rw same at (c.colour_all_alone.ensures.cost k (rw same low)) in
    let rest = rw same at c.planned_by.ensures.cost in
    omega (arith, took, rest, c.of_in_steps.ensures.cost)
