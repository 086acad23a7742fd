use Rattle.steady_schedule.specs.Covers.{AreFree}
use Rattle.steady_schedule.proofs.matching.free.Given as goal

abbrev pub invariant-loop-module : goal.invariant-loop-module
invariant-loop-module l = AreFree l.partners l.mask
