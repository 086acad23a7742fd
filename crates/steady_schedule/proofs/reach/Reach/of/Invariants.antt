use Rattle.std.proofs.Common.{◌≡◌, ◌-◌}
use Rattle.steady_schedule.specs.Reaches.{AreHeld, HaveHeld, IsOverMask}
use Rattle.steady_schedule.proofs.reach.Reach.of.Given as goal

abbrev pub invariant-loop-zero : goal.invariant-loop-zero
invariant-loop-zero l = record {
  held : AreHeld l.remaining.counts l.settings l.reach.zero.near l.reach.three.near;
  all : HaveHeld l.remaining.counts l.settings l.zero l.reach.zero.near l.reach.three.near;
  zero_needed : IsOverMask l.remaining.zero.uses (l.most - l.settings) l.modules l.reach.zero.needed;
  three_needed : IsOverMask l.remaining.three.uses (l.most - l.settings) l.modules l.reach.three.needed;
  settings : l.reach.settings ≡ l.settings;
}
