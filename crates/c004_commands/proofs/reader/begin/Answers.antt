use Rattle.std.proofs.Common.{rules}
use Rattle.c004_commands.proofs.reader.begin.Goals as goal

pub returns-in_default-clause-read : goal.returns-in_default-clause-read
returns-in_default-clause-read c = search rules
