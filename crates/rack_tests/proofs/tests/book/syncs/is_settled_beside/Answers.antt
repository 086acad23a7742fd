use Rattle.std.proofs.Crossing.{crosses}
use Rattle.crossbar.specs.contracts.port.MemoryPort as MemoryPort
use Rattle.crossbar.specs.contracts.port.MemoryPortConfigPort.TheImpl as port
use Rattle.crossbar.proofs.port.MemoryPort.TheSendSync as memory_port
use Rattle.schedule_certificate.specs.contracts.gate.OpenGate as OpenGate
use Rattle.schedule_certificate.proofs.gate.OpenGate.TheSendSync as open_gate
use Rattle.batch_book.proofs.Crossing.{any_shared_sync, seat_send}
use Rattle.rack_tests.proofs.tests.book.syncs.is_settled_beside.Goals as goal
use denote.Param.{param}
use denote.Param.Send.{sendable}

pub join-is_done-requires-send-F : goal.join-is_done-requires-send-F
join-is_done-requires-send-F g c κs within =
    let r = c.type_bounds.sync-R in
    let x = any_shared_sync (param 0 g.row.L) g.L.ExchangeName g.L.HistoryName g.L.Ledger
    MemoryPort.the_row (param 1 g.row.W) OpenGate.the_row (param 2 g.row.H) (param 4 g.row.W-Line)
    port.ghosts g.W.WireMaker g.W.Line.Wire (param 5 g.row.H-Pending) (param 6 g.row.H-Recorder) g.H.EntryLog g.H.Pending.PendingEntries g.H.Pending.EntryLog
    g.H.Recorder.Recorder
    memory_port.the_send c.type_bounds.send-W open_gate.the_send c.type_bounds.send-H c.type_bounds.send-H-Pending c.type_bounds.send-H-Recorder in
    let s = seat_send (param 0 g.row.L) g.L.ExchangeName g.L.HistoryName g.L.Ledger in
    search (crosses, sendable) depth 60 fits 20000
