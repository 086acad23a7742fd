use Rattle.move_directions.proofs.Bounds.{fewest}
use Rattle.move_directions.proofs.laws.directions.Goals as goal

pub returns : goal.returns
returns c = fewest
