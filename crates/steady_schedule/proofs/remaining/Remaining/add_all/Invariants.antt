use Rattle.std.proofs.Common.{take}
use Rattle.steady_schedule.specs.Waiting.{ArePairCounts}
use Rattle.steady_schedule.proofs.remaining.Remaining.add_all.Given as goal

abbrev pub invariant-loop-t : goal.invariant-loop-t
invariant-loop-t l = ArePairCounts (take l.t l.graph) l.self.counts
