use Rattle.std.proofs.Common.{◌-◌, ◌<◌, length, arith}
use Rattle.steady_schedule.specs.Waiting.{count_at}
use Rattle.steady_schedule.proofs.Slots.{slot_inside}
use Rattle.steady_schedule.proofs.Waiting.{count_here}
use Rattle.steady_schedule.proofs.numbering.next_number.Goals as goal

pub bounds-slots-slot : goal.bounds-slots-slot
bounds-slots-slot c =
    let here = count_here c.args.remaining.now c.args.zero c.args.three (count_at c.args.remaining.now c.args.zero c.args.three - 1) c.told-remaining
    c.requires.zero_in c.requires.three_in in
    omega (
      arith,
      here,
      c.slot.ensures,
      c.requires.some,
      c.requires.room,
      slot_inside c.args.places.now.totals.now c.args.zero c.args.three
          (count_at c.args.remaining.now c.args.zero c.args.three) c.requires.zero_in c.requires.three_in c.requires.there,
    )

pub offset_bounds-slots-slot : goal.offset_bounds-slots-slot
offset_bounds-slots-slot c =
    let here = count_here c.args.remaining.now c.args.zero c.args.three (count_at c.args.remaining.now c.args.zero c.args.three - 1) c.told-remaining
    c.requires.zero_in c.requires.three_in in
    let within : c.slot.result < length c.args.slots.now =
    omega (
      arith,
      here,
      c.slot.ensures,
      c.requires.some,
      c.requires.room,
      slot_inside c.args.places.now.totals.now c.args.zero c.args.three
          (count_at c.args.remaining.now c.args.zero c.args.three) c.requires.zero_in c.requires.three_in c.requires.there,
    ) in
    let placed = c.args.places.now.placed in
    record { fits = omega (arith, within, c.requires.room, placed.all, placed.few) }
