use Rattle.std.proofs.Common.{rules}
use Rattle.batch.proofs.batch.Batch.len.Goals as goal

pub returns-clause-value : goal.returns-clause-value
returns-clause-value c = search rules
