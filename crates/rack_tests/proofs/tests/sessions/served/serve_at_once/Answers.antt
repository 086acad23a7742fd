use Rattle.std.proofs.Crossing.{crosses}
use Rattle.crossbar.specs.contracts.port.MemoryPort as MemoryPort
use Rattle.crossbar.specs.contracts.port.MemoryPortConfigPort.TheImpl as port
use Rattle.crossbar.proofs.port.MemoryPort.TheSendSync as memory_port
use Rattle.peek_poke.specs.contracts.fuse.FuseLine as FuseLine
use Rattle.peek_poke.specs.contracts.fuse.FuseWires as FuseWires
use Rattle.peek_poke.specs.contracts.fuse.FuseLineWire.TheImpl as wire
use Rattle.peek_poke.specs.contracts.fuse.FuseWiresWireMaker.TheImpl as wires
use Rattle.peek_poke.proofs.fuse.FuseWires.TheSendSync as fuse_wires
use Rattle.schedule_certificate.specs.contracts.gate.OpenGate as OpenGate
use Rattle.schedule_certificate.proofs.gate.OpenGate.TheSendSync as open_gate
use Rattle.batch_book.proofs.Crossing.{seat_send, shared_sync}
use Rattle.rack_tests.proofs.tests.sessions.served.serve_at_once.Goals as goal
use denote.Param.{param}
use denote.Param.Send.{sendable}

pub join-one-requires-send-F : goal.join-one-requires-send-F
join-one-requires-send-F g c κs within =
    let r = c.type_bounds.sync-R in
    let i = c.type_bounds.send-I in
    let x = shared_sync (param 0 g.row.L) g.L.ExchangeName g.L.HistoryName g.L.Ledger
    MemoryPort.the_row FuseWires.the_row OpenGate.the_row FuseLine.the_row
    port.ghosts wires.ghosts wire.ghosts
    memory_port.the_send fuse_wires.the_send open_gate.the_send in
    let s = seat_send (param 0 g.row.L) g.L.ExchangeName g.L.HistoryName g.L.Ledger in
    search (crosses, sendable) depth 60 fits 20000

pub join-one-requires-send-A : goal.join-one-requires-send-A
join-one-requires-send-A g c κs within =
    let s = seat_send (param 0 g.row.L) g.L.ExchangeName g.L.HistoryName g.L.Ledger in
    search (crosses, sendable) depth 60 fits 20000
