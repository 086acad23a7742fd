use Rattle.std.proofs.Common.{arith}
use Rattle.link_graph.specs.declared.link.End.TheVariants.{Three}
use Rattle.steady_schedule.proofs.Covers.{has_room}
use Rattle.steady_schedule.proofs.stepping.three_room.Goals as goal

pub returns-in-None-clause-some : goal.returns-in-None-clause-some
returns-in-None-clause-some c =
    let l = c.args.remaining.now in
    omega (
      arith,
      has_room l.three.uses c.args.most c.args.module _ c.args.matching.now.three c.requires.low c.requires.covered c.in-None.is
          (l.told.uses_three c.args.module c.requires.low) (c.requires.most Three c.args.module c.requires.low),
    )

pub returns-in-None-clause-out : goal.returns-in-None-clause-out
returns-in-None-clause-out c _ = omega (
  arith,
  c.args.remaining.now.told.uses_three c.args.module c.requires.low,
  c.requires.most Three c.args.module c.requires.low,
)
