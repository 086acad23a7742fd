use Rattle.std.proofs.Common.{arith}
use Rattle.std.proofs.lemmas.Grind.{common_steps}
use Rattle.batch_book.proofs.lists.have_all_parts.Goals as goal

pub returns : goal.returns
returns g c = grind (arith, common_steps)
