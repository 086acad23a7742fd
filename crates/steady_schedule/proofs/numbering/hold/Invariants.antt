use Rattle.std.proofs.Common.{◌≡◌, ℕ, ◌+◌, ◌<◌, ◌≤◌, Some}
use Rattle.steady_schedule.specs.Matchings.{partner}
use Rattle.steady_schedule.specs.Slots.{AreNumberedFrom, KeepNumbers}
use Rattle.steady_schedule.specs.Steps.{AreTaken}
use Rattle.steady_schedule.specs.Waiting.{count_at}
use Rattle.steady_schedule.proofs.numbering.hold.Given as goal

abbrev pub invariant-loop-zero : goal.invariant-loop-zero
invariant-loop-zero l = record {
  taken : AreTaken l.initial.matching.zero l.settings l.zero l.initial.remaining.counts l.remaining.counts;
  ahead : (x : ℕ) → l.zero ≤ x → partner l.matching.zero x ≡ partner l.initial.matching.zero x;
  behind : (x y : ℕ) → x < l.zero → partner l.matching.zero x ≡ Some y → 0 < count_at l.remaining.counts x y;
  numbered : AreNumberedFrom l.initial.matching.zero l.first l.zero l.places.totals.now l.remaining.counts l.slots (l.first + l.settings);
  kept : KeepNumbers l.places.totals.now l.first l.initial.remaining.counts l.initial.slots l.remaining.counts l.slots;
}
