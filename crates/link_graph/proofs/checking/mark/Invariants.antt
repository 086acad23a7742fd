use Rattle.std.proofs.Common.{take}
use Rattle.link_graph.proofs.Firsts.{Marking}
use Rattle.link_graph.proofs.checking.mark.Given as goal

abbrev pub invariant-loop-t : goal.invariant-loop-t
invariant-loop-t l = Marking l.initial.marks l.marks (take l.t-index l.list)
