use Rattle.std.proofs.Common.{arith}
use Rattle.std.proofs.lemmas.Grind.{common_steps}
use Rattle.module_memory.proofs.lending.Rest.lend.Goals as goal

pub returns-clause-bay : goal.returns-clause-bay
returns-clause-bay c = grind (arith, common_steps)
