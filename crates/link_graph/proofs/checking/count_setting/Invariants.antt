use Rattle.std.proofs.Common.{take}
use Rattle.link_graph.specs.Tables.{AreCounts}
use Rattle.link_graph.specs.Marks.{members}
use Rattle.link_graph.proofs.checking.count_setting.Given as goal

abbrev pub invariant-loop-t : goal.invariant-loop-t
invariant-loop-t l = AreCounts l.counts (members l.batch (take l.t-index l.setting))
