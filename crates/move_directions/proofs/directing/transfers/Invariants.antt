use Rattle.euler_split.specs.Deals.{in_left}
use Rattle.move_directions.specs.Directions.{AreDirected}
use Rattle.move_directions.proofs.directing.transfers.Given as goal

abbrev pub invariant-loop-t : goal.invariant-loop-t
invariant-loop-t l = AreDirected l.moves (in_left l.halves) l.t l.transfers.items
