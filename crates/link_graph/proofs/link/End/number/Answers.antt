use Rattle.std.proofs.Common.{rules}
use Rattle.link_graph.proofs.link.End.number.Goals as goal

pub returns-in-Three : goal.returns-in-Three
returns-in-Three c = search rules
