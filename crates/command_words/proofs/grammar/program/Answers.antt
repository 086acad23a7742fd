use Rattle.command_words.specs.declared.commands.CommandName.TheVariants.{Plan}
use Rattle.command_words.specs.Program.{commands, top}
use Rattle.command_words.proofs.Adding.{one_more_command}
use Rattle.command_words.proofs.grammar.program.Goals as goal

pub loop-name-preserved : goal.loop-name-preserved
loop-name-preserved c =
    one_more_command top commands c.loop-name.name-index Plan c.loop-name.program c.in_ok-program.program c.loop-name-test.true c.loop-name.invariant
    c.in_ok-program.ensures
