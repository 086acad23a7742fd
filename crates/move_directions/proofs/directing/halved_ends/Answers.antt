use Rattle.std.proofs.Common.{arith}
use Rattle.std.proofs.lemmas.Grind.{common_steps}
use Rattle.move_directions.proofs.directing.halved_ends.Goals as goal

pub halve_ends-requires-clause-modules_empty : goal.halve_ends-requires-clause-modules_empty
halve_ends-requires-clause-modules_empty c = grind (arith, common_steps)

pub halve_ends-requires-clause-moves_empty : goal.halve_ends-requires-clause-moves_empty
halve_ends-requires-clause-moves_empty c = grind (arith, common_steps)

pub halve_ends-requires-clause-halves_empty : goal.halve_ends-requires-clause-halves_empty
halve_ends-requires-clause-halves_empty c = grind (arith, common_steps)

pub returns-clause-sized : goal.returns-clause-sized
returns-clause-sized c = grind (arith, common_steps)

pub returns-clause-halves : goal.returns-clause-halves
returns-clause-halves c = grind (arith, common_steps)
