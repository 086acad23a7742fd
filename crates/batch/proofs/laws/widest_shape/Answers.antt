use Rattle.std.proofs.Common.{rules}
use Rattle.batch.proofs.laws.widest_shape.Goals as goal

pub returns : goal.returns
returns c = search rules
