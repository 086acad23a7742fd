use Rattle.std.proofs.Common.{◌<◌, ◌≤◌}
use Rattle.std.specs.Prelude.{IfSome}
use Rattle.steady_schedule.proofs.weighing.commonest.Given as goal

abbrev pub invariant-loop-length : goal.invariant-loop-length
invariant-loop-length l = IfSome l.best (λ length. (0 < length) × (length ≤ l.longest))
