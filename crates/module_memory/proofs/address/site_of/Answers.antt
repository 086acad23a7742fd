use Rattle.std.proofs.Common.{rules}
use Rattle.module_memory.proofs.address.site_of.Goals as goal

pub returns : goal.returns
returns c = search rules
