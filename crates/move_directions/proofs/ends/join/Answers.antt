use Rattle.std.proofs.Common.{arith}
use Rattle.move_directions.proofs.EndPairs.{none_joined, one_joined}
use Rattle.move_directions.proofs.ends.join.Goals as goal

pub loop-t-init : goal.loop-t-init
loop-t-init c = none_joined c.args.partners.now c.requires.empty

pub loop-t-preserved : goal.loop-t-preserved
loop-t-preserved c = one_joined c.loop-t.t c.loop-t.partners (omega arith) c.loop-t.invariant
