use Rattle.std.proofs.Common.{rules}
use Rattle.batch.proofs.batch.Batch.written_blocks.Goals as goal

pub invariant_of-result : goal.invariant_of-result
invariant_of-result c = search rules
