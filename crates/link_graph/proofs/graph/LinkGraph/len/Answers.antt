use Rattle.std.proofs.Common.{rules}
use Rattle.link_graph.proofs.graph.LinkGraph.len.Goals as goal

pub returns-clause-value : goal.returns-clause-value
returns-clause-value c = search rules
