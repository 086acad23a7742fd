use Rattle.std.proofs.Common.{rules}
use Rattle.link_graph.proofs.schedule.Schedule.of.Goals as goal

pub returns : goal.returns
returns c = search rules
