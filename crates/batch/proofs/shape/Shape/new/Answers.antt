use Rattle.std.proofs.Common.{arith}
use Rattle.std.proofs.lemmas.Grind.{common_steps}
use Rattle.batch.proofs.shape.Shape.new.Goals as goal

pub returns-then-not-fits-clause-accepted : goal.returns-then-not-fits-clause-accepted
returns-then-not-fits-clause-accepted c = grind (arith, common_steps)
