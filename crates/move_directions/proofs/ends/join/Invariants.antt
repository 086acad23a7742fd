use Rattle.std.proofs.Common.{◌*◌}
use Rattle.move_directions.specs.Ends.{AreOtherEnds}
use Rattle.move_directions.proofs.ends.join.Given as goal

abbrev pub invariant-loop-t : goal.invariant-loop-t
invariant-loop-t l = AreOtherEnds (2 * l.t) l.partners
