use Rattle.std.proofs.Common.{◌≡◌, length}
use Rattle.steady_schedule.specs.Slots.{AreFilled}
use Rattle.steady_schedule.proofs.numbering.fill_best.Given as goal

abbrev pub invariant-loop-place : goal.invariant-loop-place
invariant-loop-place l = record {
  sized : length l.spare ≡ length l.slots;
  filled : AreFilled l.places.totals.now l.slots l.settings;
}
