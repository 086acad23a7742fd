use Rattle.std.proofs.Common.{◌≡◌}
use Rattle.steady_schedule.specs.Reaches.{AreHeld, HaveHeld}
use Rattle.steady_schedule.proofs.Reaches.{RowHeld}
use Rattle.steady_schedule.proofs.reach.Reach.add_row.Given as goal

abbrev pub invariant-links : goal.invariant-links
invariant-links l = record {
  held : AreHeld l.remaining.counts l.self.settings l.self.zero.near l.self.three.near;
  all : HaveHeld l.remaining.counts l.self.settings l.zero l.self.zero.near l.self.three.near;
  row : RowHeld l.remaining.counts l.self.settings l.zero l.rest l.self.zero.near l.self.three.near;
  settings : l.self.settings ≡ l.initial.self.settings;
  zero_needed : l.self.zero.needed ≡ l.initial.self.zero.needed;
  three_needed : l.self.three.needed ≡ l.initial.self.three.needed;
}

abbrev pub decreases-links : goal.decreases-links
decreases-links l = l.rest
