use Rattle.batch.proofs.Shapes.{one_shape}
use Rattle.batch.proofs.laws.one_shape.Goals as goal

pub returns : goal.returns
returns c = one_shape
