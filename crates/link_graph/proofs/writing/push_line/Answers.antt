use Rattle.std.proofs.Common.{arith}
use Rattle.std.proofs.lemmas.Grind.{common_steps}
use Rattle.link_graph.proofs.writing.push_line.Goals as goal

pub loop-t-preserved : goal.loop-t-preserved
loop-t-preserved c = grind (arith, common_steps)
