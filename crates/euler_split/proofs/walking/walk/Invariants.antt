use Rattle.std.proofs.Common.{◌≡◌, ◌<◌, length, Some}
use Rattle.euler_split.specs.Walks.{half_at, IsWalk, Keeps}
use Rattle.euler_split.proofs.Left.{left_over}
use Rattle.euler_split.proofs.walking.walk.Given as goal

abbrev pub invariant-places : goal.invariant-places
invariant-places l = record {
  sized : length l.halves ≡ length l.initial.halves;
  place_in : l.place < length l.halves;
  half_is : half_at l.halves l.place ≡ Some l.half;
  walk : IsWalk l.zero l.three l.start l.fn.first l.halves l.place l.end;
  keeps : Keeps l.initial.halves l.halves;
}

abbrev pub decreases-places : goal.decreases-places
decreases-places l = left_over l.halves
