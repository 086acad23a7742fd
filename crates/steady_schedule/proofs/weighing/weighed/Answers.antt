use Rattle.link_graph.specs.declared.link.End.TheVariants.{Zero, Three}
use Rattle.steady_schedule.proofs.Longest.{joined_over}
use Rattle.steady_schedule.proofs.Matchings.{has_low, partner_low}
use Rattle.steady_schedule.proofs.weighing.weighed.Goals as goal

pub returns-clause-each : goal.returns-clause-each
returns-clause-each c x y joined =
    let m = c.part_some.new.matching in
    c.of-reach.ensures.held.zero x y (has_low m.zero x y m.matched.sized joined) (partner_low m.zero m.three x y m.matched joined)
    (c.part_some.ensures x y joined)

pub returns-clause-joined : goal.returns-clause-joined
returns-clause-joined c =
    let l = c.args.remaining.now in
    let reach = c.of-reach.result in
    let m = c.part_some.new.matching in
    record {
      zero_joined = joined_over l.counts Zero l.zero.uses reach.zero.needed c.args.most c.args.settings c.args.modules m.zero c.requires.left c.requires.none
          l.told.uses_zero c.of-reach.ensures.zero_needed (c.are_joined.ensures c.if-not-are_joined.false);
      three_joined = joined_over l.counts Three l.three.uses reach.three.needed c.args.most c.args.settings c.args.modules m.three c.requires.left
          c.requires.none l.told.uses_three c.of-reach.ensures.three_needed (c.are_joined-else-not-are_joined.ensures c.if-not-are_joined-2.false);
    }
