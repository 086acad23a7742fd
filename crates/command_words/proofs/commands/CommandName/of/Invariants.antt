use Rattle.std.proofs.Common.{ℕ, ◌<◌, get_or}
use Rattle.std.specs.Prelude.{◌≢◌}
use Rattle.command_words.specs.declared.commands.CommandName.TheVariants.{Plan}
use Rattle.command_words.specs.Program.{commands, command_word}
use Rattle.command_words.proofs.commands.CommandName.of.Given as goal

abbrev pub invariant-loop-name : goal.invariant-loop-name
invariant-loop-name l = (k : ℕ) → k < l.name-index → command_word (get_or commands k Plan) ≢ l.fn.word
