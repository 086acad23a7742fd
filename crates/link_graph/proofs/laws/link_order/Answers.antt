use Rattle.std.proofs.Common.{rules}
use Rattle.link_graph.proofs.laws.link_order.Goals as goal

pub returns : goal.returns
returns c = search rules
