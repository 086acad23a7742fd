use Rattle.std.specs.Prelude.{IfSome}
use Rattle.steady_schedule.specs.Prices.{LimitsSteps}
use Rattle.steady_schedule.proofs.bounding.longest.Given as goal

abbrev pub invariant-loop-index : goal.invariant-loop-index
invariant-loop-index l = IfSome l.longest (λ found. LimitsSteps l.remaining.counts l.settings found.0 found.1)
