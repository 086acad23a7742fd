use Rattle.std.proofs.Common.{rules}
use Rattle.link_graph.proofs.link.End.other.Goals as goal

pub returns-in-Zero : goal.returns-in-Zero
returns-in-Zero c = search rules
