use Rattle.std.proofs.Common.{take}
use Rattle.std.specs.List.{fold}
use Rattle.command_words.specs.Program.{IsCommand, commands, top, with_command}
use Rattle.command_words.proofs.grammar.program.Given as goal

abbrev pub invariant-loop-name : goal.invariant-loop-name
invariant-loop-name l = IsCommand (fold with_command top (take l.name-index commands)) l.program
