use Rattle.std.proofs.Crossing.{crosses}
use Rattle.crossbar.specs.contracts.port.MemoryPort as MemoryPort
use Rattle.crossbar.specs.contracts.port.MemoryPortConfigPort.TheImpl as port
use Rattle.crossbar.proofs.port.MemoryPort.TheSendSync as memory_port
use Rattle.schedule_certificate.specs.contracts.gate.OpenGate as OpenGate
use Rattle.schedule_certificate.proofs.gate.OpenGate.TheSendSync as open_gate
use Rattle.batch_book.proofs.Crossing.{seat_send, shared_sync}
use Rattle.rack_tests.proofs.tests.book.readings.run_and_look.Goals as goal
use denote.Param.{param}
use denote.Param.Send.{sendable}

pub join-ran-requires-send-F : goal.join-ran-requires-send-F
join-ran-requires-send-F g c κs within =
    let r = c.type_bounds.sync-R in
    let x = shared_sync (param 0 g.row.L) g.L.ExchangeName g.L.HistoryName g.L.Ledger
    MemoryPort.the_row (param 1 g.row.W) OpenGate.the_row (param 3 g.row.W-Line)
    port.ghosts g.W.WireMaker g.W.Line.Wire
    memory_port.the_send c.type_bounds.send-W open_gate.the_send in
    let s = seat_send (param 0 g.row.L) g.L.ExchangeName g.L.HistoryName g.L.Ledger in
    search (crosses, sendable) depth 60 fits 20000
