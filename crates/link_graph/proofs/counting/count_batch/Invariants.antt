use Rattle.std.proofs.Common.{◌≡◌, ◌+◌, take}
use Rattle.link_graph.specs.Tables.{AreCounts}
use Rattle.link_graph.proofs.counting.count_batch.Given as goal

abbrev pub invariant-loop-transfer : goal.invariant-loop-transfer
invariant-loop-transfer l = AreCounts l.counts (take l.transfer-index l.transfer-items) × (l.steps ≡ l.fn.steps + l.transfer-index)
