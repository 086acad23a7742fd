use Rattle.std.proofs.Common.{take}
use Rattle.command_words.specs.Jobs.{HaveNames}
use Rattle.command_words.proofs.outputs.first_misnamed.Given as goal

abbrev pub invariant-loop-i : goal.invariant-loop-i
invariant-loop-i l = HaveNames (take l.i l.files)
