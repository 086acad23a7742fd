use Rattle.std.proofs.Common.{arith}
use Rattle.schedule_certificate.proofs.PutBack.{known_now, not_placed, never_full, one_back, all_back}
use Rattle.schedule_certificate.proofs.halving.put_back.Goals as goal

pub insert_in_steps-requires : goal.insert_in_steps-requires
insert_in_steps-requires c = known_now c.args.table.now c.loop-t.table c.args.class.now c.loop-t.t-index c.requires c.loop-t.invariant.0 c.loop-t-test.true

pub unreachable-requires : goal.unreachable-requires
unreachable-requires c = not_placed c.args.table.now c.loop-t.table c.args.class.now c.loop-t.t-index c.requires c.loop-t.invariant.0 c.loop-t-test.true
    (c.insert_in_steps.ensures.already.0 (rw c.in-Err-Already.field-0-is at c.in-Err-Already.is))

pub unreachable-requires-in-Err-NoRoom : goal.unreachable-requires-in-Err-NoRoom
unreachable-requires-in-Err-NoRoom c =
    let full = c.insert_in_steps.ensures.no_room.0 (rw c.in-Err-NoRoom.field-0-is at c.in-Err-NoRoom.is) in
    never_full c.args.table.now c.loop-t.table c.args.class.now c.loop-t.t-index c.requires c.loop-t.invariant.0 c.loop-t-test.true full.1

pub loop-t-preserved : goal.loop-t-preserved
loop-t-preserved c = (
  one_back c.args.table.now c.loop-t.table c.args.class.now c.loop-t.t-index c.requires c.loop-t.invariant.0 c.loop-t-test.true
      c.insert_in_steps.new.self c.insert_in_steps.ensures.batch c.insert_in_steps.ensures.colours c.in-Ok.ensures.placed
      (omega (arith, c.in-Ok.ensures.counted)),
  omega (arith, c.loop-t.invariant.1, c.insert_in_steps.ensures.cost, c.loop-t.invariant.0.colours),
)

pub returns-clause-placed : goal.returns-clause-placed
returns-clause-placed c = all_back c.args.table.now c.args.class.now c.loop-t.t-index c.loop-t.table (omega arith) c.loop-t.invariant.0
