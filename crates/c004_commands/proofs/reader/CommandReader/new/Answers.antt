use Rattle.std.proofs.Common.{rules}
use Rattle.c004_commands.proofs.reader.CommandReader.new.Goals as goal

pub returns : goal.returns
returns c = search rules
