use Rattle.schedule_certificate.proofs.Parts.{left_known, right_known, left_matching, right_matching, right_out, two_coloured_if}
use Rattle.schedule_certificate.proofs.halving.colour_two.Goals as goal

pub one_with_room-requires-clause-known : goal.one_with_room-requires-clause-known
one_with_room-requires-clause-known c = left_known c.args.graph.now c.requires.0 c.args.left.now c.args.right.now c.requires.1

pub one_with_room-requires-clause-matching : goal.one_with_room-requires-clause-matching
one_with_room-requires-clause-matching c = left_matching c.args.graph.now c.requires.0 c.args.left.now c.args.right.now c.requires.1

pub with_class-requires-clause-known : goal.with_class-requires-clause-known
with_class-requires-clause-known c = rw c.in_ok-table.ensures.batch (right_known c.args.graph.now c.requires.0 c.args.left.now c.args.right.now c.requires.1)

pub with_class-requires-clause-matching : goal.with_class-requires-clause-matching
with_class-requires-clause-matching c = rw c.in_ok-table.ensures.batch (right_matching c.args.graph.now c.requires.0 c.args.left.now c.args.right.now
    c.requires.1)

pub with_class-requires-clause-out : goal.with_class-requires-clause-out
with_class-requires-clause-out c = right_out c.args.graph.now c.requires.0 c.args.left.now c.args.right.now c.requires.1 c.in_ok-table.table
    c.in_ok-table.ensures.batch c.in_ok-table.ensures.colours c.in_ok-table.ensures.placed c.in_ok-table.ensures.inserted

pub returns-clause-coloured : goal.returns-clause-coloured
returns-clause-coloured c whole x = two_coloured_if c.args.graph.now whole c.args.left.now c.args.right.now x c.in_ok-table.table c.in_ok-table.ensures.batch
    c.in_ok-table.ensures.colours c.in_ok-table.ensures.placed c.in_ok-table.ensures.inserted c.with_class.result c.with_class.ensures.more
