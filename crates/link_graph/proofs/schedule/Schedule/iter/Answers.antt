use Rattle.std.proofs.Common.{rules}
use Rattle.link_graph.proofs.schedule.Schedule.iter.Goals as goal

pub returns : goal.returns
returns c = search rules
