use Rattle.std.proofs.Crossing.{crosses}
use Rattle.book_record.proofs.Crossing.{waiting_send}
use Rattle.rack_tests.proofs.tests.book.syncs.holds.Goals as goal
use denote.Param.Send.{sendable}

pub open-opened-requires-send-H-Pending : goal.open-opened-requires-send-H-Pending
open-opened-requires-send-H-Pending g c κs within = let w = waiting_send in search sendable depth 20

pub is_so-requires-send-H-Pending : goal.is_so-requires-send-H-Pending
is_so-requires-send-H-Pending g c κs within = let w = waiting_send in search sendable depth 20

pub is_settled_beside-is_settled-requires-send-H : goal.is_settled_beside-is_settled-requires-send-H
is_settled_beside-is_settled-requires-send-H g c κs within = let w = waiting_send in search (crosses, sendable) depth 60 fits 20000

pub is_settled_beside-is_settled-requires-send-H-Pending : goal.is_settled_beside-is_settled-requires-send-H-Pending
is_settled_beside-is_settled-requires-send-H-Pending g c κs within = let w = waiting_send in search sendable depth 20
