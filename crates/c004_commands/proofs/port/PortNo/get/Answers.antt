use Rattle.std.proofs.Common.{rules}
use Rattle.c004_commands.proofs.port.PortNo.get.Goals as goal

pub returns-clause-number : goal.returns-clause-number
returns-clause-number c = search rules
