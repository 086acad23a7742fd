use Rattle.std.proofs.Common.{rules}
use Rattle.module_memory.proofs.lending.Rest.shape.Goals as goal

pub returns : goal.returns
returns c = search rules
