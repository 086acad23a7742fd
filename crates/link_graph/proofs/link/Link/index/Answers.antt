use Rattle.std.proofs.Common.{rules}
use Rattle.link_graph.proofs.link.Link.index.Goals as goal

pub returns-in-Three-clause-index : goal.returns-in-Three-clause-index
returns-in-Three-clause-index c = search rules
