use Rattle.link_graph.specs.Schedules.{lists_of}
use Rattle.steady_schedule.proofs.Read.{read_schedule, read_needs}
use Rattle.steady_schedule.proofs.planning.schedule_of.Goals as goal

pub returns-clause-schedule : goal.returns-clause-schedule
returns-clause-schedule c = rw c.of.ensures (read_schedule c.args.graph.now c.args.settings (lists_of c.in_ok-lists.lists.items) c.in_ok-lists.ensures)

pub returns-clause-needs : goal.returns-clause-needs
returns-clause-needs c = rw c.of.ensures (read_needs c.args.graph.now c.args.settings (lists_of c.in_ok-lists.lists.items) c.in_ok-lists.ensures)
