use Rattle.std.proofs.Common.{arith}
use Rattle.link_graph.specs.declared.link.End.TheVariants.{Zero}
use Rattle.steady_schedule.proofs.Covers.{has_room}
use Rattle.steady_schedule.proofs.Matchings.{partner_low}
use Rattle.steady_schedule.proofs.Steps.{near_counts}
use Rattle.steady_schedule.proofs.stepping.zero_room.Goals as goal

pub count-requires-clause-three_in : goal.count-requires-clause-three_in
count-requires-clause-three_in c = partner_low c.args.matching.now.zero c.args.matching.now.three c.args.module c.in-Some.three c.args.matching.now.matched
    c.in-Some.is

pub returns-in-Some-clause-some : goal.returns-in-Some-clause-some
returns-in-Some-clause-some c =
    let l = c.args.remaining.now in
    let m = c.args.matching.now in
    omega (
      arith,
      c.count.ensures,
      near_counts l.counts l.zero.near l.zero.uses l.three.near l.three.uses l.told m.zero m.three m.matched c.args.module
          c.in-Some.three c.requires.near c.in-Some.is,
    )

pub returns-in-None-clause-some : goal.returns-in-None-clause-some
returns-in-None-clause-some c =
    let l = c.args.remaining.now in
    has_room l.zero.uses c.args.most c.args.module _ c.args.matching.now.zero c.requires.low c.requires.covered c.in-None.is
    (l.told.uses_zero c.args.module c.requires.low) (c.requires.most Zero c.args.module c.requires.low)
