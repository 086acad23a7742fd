use Rattle.std.proofs.Common.{rules}
use Rattle.batch.proofs.written.WrittenBlocks.has.Goals as goal

pub returns : goal.returns
returns c = search rules
