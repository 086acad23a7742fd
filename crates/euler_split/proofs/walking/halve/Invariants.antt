use Rattle.euler_split.specs.Walks.{IsHalved}
use Rattle.euler_split.proofs.walking.halve.Given as goal

abbrev pub invariant-loop-start : goal.invariant-loop-start
invariant-loop-start l = IsHalved l.zero l.three l.start l.halves
