use Rattle.std.proofs.Common.{take}
use Rattle.clap.specs.Words.{app_of}
use Rattle.command_words.specs.Program.{IsCommand, with_arguments}
use Rattle.command_words.proofs.grammar.with_arguments.Given as goal

abbrev pub invariant-loop-argument : goal.invariant-loop-argument
invariant-loop-argument l = IsCommand (with_arguments (app_of l.fn.command) (take l.argument-index l.arguments)) l.command
