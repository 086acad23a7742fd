use Rattle.std.proofs.Common.{rules}
use Rattle.c004_commands.proofs.port.PortNo.new.Goals as goal

pub invariant_of-result : goal.invariant_of-result
invariant_of-result c = search rules
