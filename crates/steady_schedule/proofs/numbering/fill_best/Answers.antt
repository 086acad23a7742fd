use Rattle.std.proofs.Common.{arith}
use Rattle.steady_schedule.proofs.numbering.fill_best.Goals.{then-steps-best, else-steps-best}
use Rattle.steady_schedule.proofs.numbering.fill_best.Goals as goal

pub loop-place-preserved : goal.loop-place-preserved
loop-place-preserved c = record {
  sized = omega (arith, c.loop-place.invariant.sized, c.fill-steps.auto.slots, c.if-steps-best.auto.slots);
  filled = elim c.if-steps-best.branch [
    | then-steps-best w ↦ rw (w.slots-is, w.copy_from_slice.ensures.after) (c.fill-steps.ensures.filled w.if-steps-best.true)
    | else-steps-best w ↦ rw w.slots-is c.loop-place.invariant.filled
  ];
}
