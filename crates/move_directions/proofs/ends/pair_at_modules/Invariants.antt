use Rattle.std.proofs.Common.{◌*◌, length}
use Rattle.euler_split.proofs.Partners.{ArePaired}
use Rattle.move_directions.specs.Ends.{module_of_end}
use Rattle.move_directions.proofs.ends.pair_at_modules.Given as goal

abbrev pub invariant-loop-t : goal.invariant-loop-t
invariant-loop-t l = ArePaired (module_of_end l.moves) (2 * length l.moves) (2 * l.t) l.waiting l.partners
