use Rattle.clap.specs.Words.{app_of}
use Rattle.command_words.specs.declared.commands.Argument.TheVariants.{Shape}
use Rattle.command_words.proofs.Adding.{one_more_argument}
use Rattle.command_words.proofs.grammar.with_arguments.Goals as goal

pub loop-argument-preserved : goal.loop-argument-preserved
loop-argument-preserved c =
    one_more_argument (app_of c.args.command) c.args.arguments.now c.loop-argument.argument-index Shape c.loop-argument.command c.arg_of.result
    c.in_ok-command.command
    c.loop-argument-test.true c.arg_of.ensures c.loop-argument.invariant c.in_ok-command.ensures
