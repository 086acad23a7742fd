use Rattle.std.proofs.Common.{rules}
use Rattle.c004_commands.proofs.reader.with_port.Goals as goal

pub returns-in-ConnectFrom-clause-read : goal.returns-in-ConnectFrom-clause-read
returns-in-ConnectFrom-clause-read c = search rules
