use Rattle.std.proofs.Common.{ℕ, ◌<◌, ◌≤◌}
use Rattle.steady_schedule.specs.Steps.{CanHoldAt, IsTight}
use Rattle.steady_schedule.proofs.stepping.longest_hold.Given as goal

abbrev pub invariant-loop-module : goal.invariant-loop-module
invariant-loop-module l = record {
  some : 0 < l.settings;
  few : l.settings ≤ l.most;
  each : (x : ℕ) → x < l.«module» → CanHoldAt l.remaining.counts l.matching.zero l.matching.three l.most l.settings x;
  tight : IsTight l.remaining.counts l.matching.zero l.matching.three l.most l.settings;
}
