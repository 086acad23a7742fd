use Rattle.std.proofs.Common.{rules}
use Rattle.batch.proofs.batch.Batch.iter.Goals as goal

pub returns-clause-transfers : goal.returns-clause-transfers
returns-clause-transfers c = search rules
