use Rattle.std.proofs.Common.{rules}
use Rattle.link_graph.proofs.graph.LinkGraph.ends.Goals as goal

pub returns : goal.returns
returns c = search rules
