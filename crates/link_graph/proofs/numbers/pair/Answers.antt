use Rattle.link_graph.proofs.Digits.{pair_of}
use Rattle.link_graph.proofs.numbers.pair.Goals as goal

pub returns-clause-tens : goal.returns-clause-tens
returns-clause-tens c = (pair_of c.args.n c.requires).0

pub returns-clause-ones : goal.returns-clause-ones
returns-clause-ones c = (pair_of c.args.n c.requires).1
