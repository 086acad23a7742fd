use Rattle.link_graph.specs.Schedules.{lists_of}
use Rattle.steady_schedule.specs.Gathered.{AreEmpty}
use Rattle.steady_schedule.proofs.gathering.empty_lists.Given as goal

abbrev pub invariant-loop : goal.invariant-loop
invariant-loop l = AreEmpty (lists_of l.lists.items) l.counter
