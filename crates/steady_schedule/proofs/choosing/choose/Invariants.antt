use Rattle.std.proofs.Common.{◌≡◌, ◌<◌, ◌≤◌}
use Rattle.steady_schedule.specs.Reaches.{AreHeld, HaveEach, JoinsNeeded}
use Rattle.steady_schedule.proofs.choosing.choose.Given as goal

abbrev pub invariant-lengths : goal.invariant-lengths
invariant-lengths l = record {
  some : 0 < l.choice.reach.settings;
  left : l.choice.reach.settings ≤ l.most;
  each : HaveEach l.remaining.counts l.choice.reach.settings l.choice.matching.zero;
  held : AreHeld l.remaining.counts l.choice.reach.settings l.choice.reach.zero.near l.choice.reach.three.near;
  shorter : l.choice.shorter < l.choice.reach.settings;
  joined : l.choice.shorter ≡ 0 → JoinsNeeded l.remaining.counts l.choice.matching.zero l.choice.matching.three l.most l.choice.reach.settings;
}

abbrev pub decreases-lengths : goal.decreases-lengths
decreases-lengths l = l.choice.shorter
