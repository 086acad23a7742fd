use Rattle.std.proofs.Common.{rules}
use Rattle.c004_commands.proofs.command.write.Goals as goal

pub returns-clause-bytes : goal.returns-clause-bytes
returns-clause-bytes c = search rules

pub returns-clause-whole : goal.returns-clause-whole
returns-clause-whole c = search rules
