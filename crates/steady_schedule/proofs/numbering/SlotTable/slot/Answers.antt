use Rattle.std.proofs.Common.{◌<◌, ◌*◌, arith}
use Rattle.batch.specs.declared.limits.TheConstants.{MAX_MODULES}
use Rattle.steady_schedule.specs.Waiting.{pair_index}
use Rattle.steady_schedule.proofs.Slots.{slot_inside}
use Rattle.steady_schedule.proofs.numbering.SlotTable.slot.Goals as goal

pub overflow_add-result-2 : goal.overflow_add-result-2
overflow_add-result-2 c =
    let s = c.args.self.now in
    let low : pair_index c.args.zero c.args.three < MAX_MODULES * MAX_MODULES = omega (arith, c.requires.zero_in, c.requires.three_in) in
    record {
      fits = omega (
        arith,
        s.placed.at (pair_index c.args.zero c.args.three) low,
        slot_inside s.totals.now c.args.zero c.args.three c.args.i
            c.requires.zero_in c.requires.three_in c.requires.there,
        s.placed.all,
        s.placed.few,
      );
    }
