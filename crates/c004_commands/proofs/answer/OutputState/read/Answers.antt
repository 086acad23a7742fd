use Rattle.std.proofs.Common.{rules}
use Rattle.c004_commands.proofs.answer.OutputState.read.Goals as goal

pub returns-in-None-clause-answer : goal.returns-in-None-clause-answer
returns-in-None-clause-answer c = search rules

pub returns-in-None-clause-bad : goal.returns-in-None-clause-bad
returns-in-None-clause-bad c = search rules
