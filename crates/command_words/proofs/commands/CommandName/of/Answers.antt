use Rattle.std.proofs.Common.{arith}
use Rattle.command_words.proofs.CommandNames.{calls_none}
use Rattle.command_words.proofs.commands.CommandName.of.Goals as goal

pub returns-clause-none : goal.returns-clause-none
returns-clause-none c = calls_none c.args.word.now (λ k below. c.loop-name.invariant k (omega arith))
