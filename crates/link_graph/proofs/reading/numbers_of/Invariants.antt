use Rattle.std.proofs.Common.{length}
use Rattle.link_graph.proofs.LinkLines.{AreRead}
use Rattle.link_graph.proofs.reading.numbers_of.Given as goal

abbrev pub invariant-loop-rest : goal.invariant-loop-rest
invariant-loop-rest l = AreRead l.words l.numbers.items l.rest

abbrev pub decreases-loop-rest : goal.decreases-loop-rest
decreases-loop-rest l = length l.rest
