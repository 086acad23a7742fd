use Rattle.std.proofs.Common.{rules}
use Rattle.module_memory.proofs.lendable.lend_fault.Goals as goal

pub returns-in-Some : goal.returns-in-Some
returns-in-Some c = search rules
