use Rattle.euler_split.proofs.InTurn.{same_pairs, halves_are}
use Rattle.euler_split.proofs.evenly.split_evenly.Goals as goal

pub returns-clause-split : goal.returns-clause-split
returns-clause-split c = halves_are c.args.graph.now c.args.members.now _ _ _ c.requires.even c.deal.ensures.dealt

pub returns-clause-pairs : goal.returns-clause-pairs
returns-clause-pairs c = same_pairs c.args.graph.now c.args.members.now _ _ _ c.requires.even c.deal.ensures.dealt
