use Rattle.std.proofs.Common.{◌+◌, ◌*◌, ◌≤◌}
use Rattle.steady_schedule.specs.Matchings.{AreMatched}
use Rattle.steady_schedule.specs.Searches.{IsInVain}
use Rattle.steady_schedule.proofs.matching.+augment.Given as goal

abbrev pub decreases-make_room : goal.decreases-make_room
decreases-make_room l = 2 * l.unseen.now + 1

abbrev pub decreases-augment : goal.decreases-augment
decreases-augment l = 2 * l.unseen.now

abbrev pub invariant-augment-search : goal.invariant-augment-search
invariant-augment-search l = record {
  matched : AreMatched l.of l.back;
  vain : IsInVain l.held.near l.held.needed l.initial.unseen l.unseen l.initial.of l.of l.initial.back l.back;
  fewer : l.unseen ≤ l.initial.unseen;
}

abbrev pub decreases-augment-search : goal.decreases-augment-search
decreases-augment-search l = l.unseen
