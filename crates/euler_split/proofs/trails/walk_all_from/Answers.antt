use Rattle.std.proofs.Common.{refl, arith}
use Rattle.euler_split.proofs.Steps.{begun, finished}
use Rattle.euler_split.proofs.trails.walk_all_from.Goals as goal

pub walks-init : goal.walks-init
walks-init c = (refl, λ all. begun all _ _ c.args.start)

pub walks-preserved : goal.walks-preserved
walks-preserved c = (omega (arith, c.walks.invariant.0, c.walk.ensures.cost), λ all x. c.walk.ensures.walked all (c.walks.invariant.1 all x))

pub returns-clause-even : goal.returns-clause-even
returns-clause-even c all x = finished all _ _ c.args.start c.walks.first_left (c.walks.invariant.1 all x) (omega (arith, c.walks-test.false))
