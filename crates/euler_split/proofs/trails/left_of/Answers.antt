use Rattle.std.proofs.Common.{arith}
use Rattle.batch.specs.declared.limits.TheConstants.{MAX_MODULES}
use Rattle.link_graph.specs.Masks.{has_pair}
use Rattle.euler_split.proofs.Steps.{halved, none_taken}
use Rattle.euler_split.proofs.trails.left_of.Goals as goal

pub loop-start-init : goal.loop-start-init
loop-start-init c = (omega arith, none_taken c.args.pairs.now.zero MAX_MODULES)

pub loop-start-preserved : goal.loop-start-preserved
loop-start-preserved c = (
  omega (arith, c.loop-start.invariant.0, c.walk_all_from.ensures.cost, c.tick.ensures),
  c.walk_all_from.ensures.even (has_pair c.args.pairs.now.zero) c.loop-start.invariant.1,
)

pub returns-clause-halved : goal.returns-clause-halved
returns-clause-halved c = halved c.args.pairs.now.zero c.loop-start.pairs.zero c.loop-start.left_half c.loop-start.start (omega arith) c.loop-start.invariant.1
