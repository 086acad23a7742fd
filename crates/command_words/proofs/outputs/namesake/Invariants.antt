use Rattle.std.proofs.Common.{take}
use Rattle.std.specs.Prelude.{All}
use Rattle.command_words.specs.Jobs.{HaveTwoNames}
use Rattle.command_words.proofs.outputs.namesake.Given as goal

abbrev pub invariant-loop-k : goal.invariant-loop-k
invariant-loop-k l = All (λ other. HaveTwoNames other l.file) (take l.k l.others)
