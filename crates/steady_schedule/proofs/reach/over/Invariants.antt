use Rattle.steady_schedule.specs.Reaches.{IsOverMask}
use Rattle.steady_schedule.proofs.reach.over.Given as goal

abbrev pub invariant-loop-module : goal.invariant-loop-module
invariant-loop-module l = IsOverMask l.uses l.count l.«module» l.mask
