use Rattle.euler_split.proofs.Dealt.{is_split}
use Rattle.euler_split.proofs.halving.split_in_place.Goals as goal

pub returns-clause-split : goal.returns-clause-split
returns-clause-split c =
    is_split c.args.graph.now c.args.members.now c.odd_pairs-odd.result.zero c.left_of-turns.result _ _ _ c.odd_pairs-odd.ensures.odd
    c.left_of-turns.ensures.halved c.deal.ensures.dealt
