use Rattle.std.proofs.Common.{arith}
use Rattle.std.proofs.lemmas.Grind.{common_steps}
use Rattle.batch_book.proofs.shared.Shared.progress.Goals as goal

pub returns-clause-reading : goal.returns-clause-reading
returns-clause-reading g c = grind (arith, common_steps)

pub returns-clause-done : goal.returns-clause-done
returns-clause-done g c = grind (arith, common_steps)
