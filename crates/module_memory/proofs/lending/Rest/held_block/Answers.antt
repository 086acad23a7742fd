use Rattle.std.proofs.Common.{rules}
use Rattle.module_memory.proofs.lending.Rest.held_block.Goals as goal

pub returns-then-is_empty : goal.returns-then-is_empty
returns-then-is_empty c = search rules
