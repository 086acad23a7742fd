use Rattle.std.proofs.Common.{rules}
use Rattle.move_directions.proofs.moves.MoveList.len.Goals as goal

pub returns-clause-value : goal.returns-clause-value
returns-clause-value c = search rules
