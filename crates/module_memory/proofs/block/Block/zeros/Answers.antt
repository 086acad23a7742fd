use Rattle.std.proofs.Common.{rules}
use Rattle.module_memory.proofs.block.Block.zeros.Goals as goal

pub returns : goal.returns
returns c = search rules
