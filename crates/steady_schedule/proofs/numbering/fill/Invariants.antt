use Rattle.std.proofs.Common.{◌-◌, ◌<◌, ◌≤◌}
use Rattle.steady_schedule.specs.Searches.{AreNear}
use Rattle.steady_schedule.specs.Slots.{AreNumbered, AreAtNeed}
use Rattle.steady_schedule.specs.Waiting.{HaveMost, NoneWait}
use Rattle.steady_schedule.proofs.numbering.fill.Given as goal

abbrev pub invariant-steps : goal.invariant-steps
invariant-steps l = record {
  some : 0 < l.longest_now;
  steps : l.steps ≤ l.first;
  some_top : 0 < l.top;
  few : l.first ≤ l.settings;
  most : HaveMost l.left.counts (l.settings - l.first);
  numbered : AreNumbered l.places.totals.now l.left.counts l.slots l.first;
  none : NoneWait l.left.counts l.modules;
  near : AreNear l.left.zero.near l.matching.zero;
  needs : AreAtNeed l.places.totals.now l.left.counts l.slots l.settings l.first;
}

abbrev pub decreases-steps : goal.decreases-steps
decreases-steps l = l.settings - l.first
