use Rattle.std.proofs.Common.{rules}
use Rattle.batch.proofs.batch.Batch.of.Goals as goal

pub returns : goal.returns
returns c = search rules
