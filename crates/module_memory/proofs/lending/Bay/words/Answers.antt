use Rattle.std.proofs.Common.{rules}
use Rattle.module_memory.proofs.lending.Bay.words.Goals as goal

pub returns : goal.returns
returns c = search rules
