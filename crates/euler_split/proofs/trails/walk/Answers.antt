use Rattle.std.proofs.Common.{inl, refl, arith}
use Rattle.link_graph.specs.declared.link.End.TheVariants.{Zero, Three}
use Rattle.euler_split.proofs.Masks.{none_zero, none_three}
use Rattle.euler_split.proofs.Steps.{ended}
use Rattle.euler_split.proofs.trails.walk.Goals as goal

pub returns-then-untaken-three-eq0-clause-walked : goal.returns-then-untaken-three-eq0-clause-walked
returns-then-untaken-three-eq0-clause-walked c all x =
    let across = c.take.ensures.walked all c.args.first_left c.args.start Zero refl (c.steps.invariant.even all x) in
    ended all _ _ c.args.start c.args.first_left Three c.lowest-three.result across (none_three _ _ _ c.take.new.untaken.mirrored c.if-untaken-three-eq0.true)

pub returns-clause-walked : goal.returns-clause-walked
returns-clause-walked c all x = ended all _ _ c.args.start c.args.first_left Zero c.steps.zero (c.steps.invariant.even all x)
    (none_zero _ _ (omega (arith, c.steps-test.false)))

pub steps-preserved : goal.steps-preserved
steps-preserved c = record {
  zero_in = c.lowest-zero.ensures.within;
  cost = omega (arith, c.steps.invariant.cost, c.take.ensures.fewer, c.take.ensures.cost, c.take-in-steps.ensures.fewer, c.take-in-steps.ensures.cost);
  less = inl (grind arith);
  even = λ all x.
      let across = c.take.ensures.walked all c.args.first_left c.args.start Zero refl (c.steps.invariant.even all x) in
      c.take-in-steps.ensures.walked all c.args.first_left c.args.start Three refl across;
}
