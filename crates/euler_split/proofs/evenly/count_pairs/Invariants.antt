use Rattle.std.proofs.Common.{◌≡◌, ◌+◌, take}
use Rattle.euler_split.specs.Evenness.{ArePairCounts}
use Rattle.euler_split.proofs.evenly.count_pairs.Given as goal

abbrev pub invariant-loop-place : goal.invariant-loop-place
invariant-loop-place l = (l.steps ≡ l.fn.steps + l.place) × ArePairCounts l.graph (take l.place l.members) l.counts
