use Rattle.std.proofs.Common.{◌≡◌, ◌<◌, ◌≤◌, ℕ}
use Rattle.link_graph.specs.declared.link.End.{End}
use Rattle.steady_schedule.specs.Waiting.{waiting}
use Rattle.steady_schedule.proofs.remaining.Remaining.modules.Given as goal

abbrev pub invariant-loop-module : goal.invariant-loop-module
invariant-loop-module l = record {
  within : l.modules ≤ l.«module»;
  none : (end : End) (m : ℕ) → l.modules ≤ m → m < l.«module» → waiting l.self.counts end m ≡ 0;
}
