use Rattle.std.proofs.Crossing.{crosses}
use Rattle.book_record.proofs.Crossing.{waiting_send}
use Rattle.answers_tests.proofs.tests.hosting.host_recorded.Goals as goal
use denote.Param.Send.{sendable}

pub host_known-requires-send-K : goal.host_known-requires-send-K
host_known-requires-send-K g c κs within = let x = waiting_send in search (crosses, sendable) depth 60 fits 20000
