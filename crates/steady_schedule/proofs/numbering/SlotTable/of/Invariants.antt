use Rattle.std.proofs.Common.{◌≡◌, ◌<◌, ◌≤◌, ◌*◌, ℕ, length, slice_index}
use Rattle.batch.specs.declared.limits.TheConstants.{MAX_MODULES, MAX_TRANSFERS}
use Rattle.steady_schedule.specs.Waiting.{sum_below}
use Rattle.steady_schedule.proofs.numbering.SlotTable.of.Given as goal

abbrev pub invariant-loop-place : goal.invariant-loop-place
invariant-loop-place l = record {
  sized : length l.starts ≡ MAX_MODULES * MAX_MODULES;
  starts : (p : ℕ) → p < l.place → slice_index l.starts p ≡ sum_below p (slice_index l.totals);
  room : l.room ≡ sum_below l.place (slice_index l.totals);
  few : l.room ≤ l.place * MAX_TRANSFERS;
}
