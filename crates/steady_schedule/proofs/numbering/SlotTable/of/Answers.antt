use Rattle.std.proofs.Common.{slice_index, sym, ◌∙◌, arith}
use Rattle.std.proofs.lemmas.List.{length-set}
use Rattle.steady_schedule.proofs.Slots.{starts_more}
use Rattle.steady_schedule.proofs.Sums.{sum_zero, sum_more}
use Rattle.steady_schedule.proofs.numbering.SlotTable.of.Goals as goal

pub loop-place-init : goal.loop-place-init
loop-place-init c = record {
  sized = c.told-starts;
  starts = λ p lt. absurd (omega arith);
  room = sym (sum_zero (slice_index c.args.totals.now));
  few = omega arith;
}

pub loop-place-preserved : goal.loop-place-preserved
loop-place-preserved c = record {
  sized = length-set c.loop-place.starts c.loop-place.place c.loop-place.room ∙ c.loop-place.invariant.sized;
  starts = starts_more c.args.totals.now c.loop-place.starts c.loop-place.place c.loop-place.room (omega (arith, c.loop-place.invariant.sized))
      c.loop-place.invariant.room c.loop-place.invariant.starts;
  room = omega (arith, c.loop-place.invariant.room, sum_more c.loop-place.place (slice_index c.args.totals.now));
  few = omega (arith, c.loop-place.invariant.few, c.requires c.loop-place.place 0 (omega arith));
}
