-- What the threads of a host share may be shared.
use Rattle.std.proofs.Crossing.{crosses}
use Rattle.std.proofs.sync.OnceLock.TheSendSync as once_lock
use Rattle.std.proofs.sync.OnceToken.TheSendSync as once_token
use Rattle.std.specs.contracts.option.Option as Option
use Rattle.std.specs.contracts.sync.OnceLock as OnceLock
use Rattle.std.specs.contracts.sync.OnceToken as OnceToken
use Rattle.std.specs.declared.sync.ledger.Ledger as Ledger
use Rattle.session_lists.specs.declared.keeper.HistoryName as HistoryName
use Rattle.crossbar.specs.contracts.port.MemoryPort as MemoryPort
use Rattle.crossbar.specs.contracts.port.MemoryPortConfigPort.TheImpl as port
use Rattle.crossbar.proofs.port.MemoryPort.TheSendSync as memory_port
use Rattle.peek_poke.specs.contracts.plain.PlainWire as PlainWire
use Rattle.peek_poke.specs.contracts.plain.PlainWires as PlainWires
use Rattle.peek_poke.specs.contracts.plain.PlainWireWire.TheImpl as wire
use Rattle.peek_poke.specs.contracts.plain.PlainWiresWireMaker.TheImpl as wires
use Rattle.peek_poke.proofs.plain.PlainWires.TheSendSync as plain_wires
use Rattle.schedule_certificate.specs.contracts.gate.OpenGate as OpenGate
use Rattle.schedule_certificate.proofs.gate.OpenGate.TheSendSync as open_gate
use Rattle.batch_book.specs.contracts.shared.Shared as Shared
use Rattle.batch_book.specs.declared.entry_log.EntryLog as EntryLog
use Rattle.batch_book.specs.declared.naming.ExchangeName as ExchangeName
use Rattle.batch_book.specs.declared.recorder.Recorder as Recorder
use Rattle.batch_book.specs.declared.pending_entries.PendingEntries as PendingEntries
use Rattle.batch_book.proofs.Crossing.{any_shared_sync}
use Rattle.session_answers.specs.contracts.threads_started.ThreadsStarted as ThreadsStarted
use Rattle.session_answers.proofs.threads_started.ThreadsStarted.TheSendSync as all_there
use Rattle.session_answers.specs.contracts.host_threads.HostContext as HostContext
use denote.Ref.{NamedLft}
use denote.RattleType.{RattleType}
use denote.Param.Send.{IsSend, IsSync, recorded_sync, struct_sync, sendable}
use denote.Struct.Declared.{shape}

latch_sync : IsSync (OnceLock.the_row (Option.the_row ThreadsStarted.the_row))
latch_sync =
    let s = all_there.the_send in
    let y = all_there.the_sync in
    once_lock.the_sync (Option.the_row ThreadsStarted.the_row) (search sendable depth 20) (search sendable depth 20)

pub token_send : (a : NamedLft) (T : RattleType) → IsSend (OnceToken.the_row a T)
token_send a T = once_token.the_send a T

exchange_sync : (L K E Q : RattleType) (n : ExchangeName.Ghosts L.Denot) (h : HistoryName.Ghosts L.Denot) (l : Ledger.Ghosts L.Denot)
    (g : EntryLog.Ghosts K.Denot) (e : PendingEntries.Ghosts E.Denot) (f : EntryLog.Ghosts E.Denot) (q : Recorder.Ghosts Q.Denot)
    → IsSend K → IsSend E → IsSend Q → IsSync (Shared.the_row L MemoryPort.the_row PlainWires.the_row OpenGate.the_row K PlainWire.the_row E Q n l h port.ghosts
    wires.ghosts wire.ghosts g e f q)
exchange_sync L K E Q n h l g e f q sk se sq =
    any_shared_sync L n h l MemoryPort.the_row PlainWires.the_row OpenGate.the_row K PlainWire.the_row port.ghosts wires.ghosts wire.ghosts E Q g e f q
    memory_port.the_send plain_wires.the_send open_gate.the_send sk se sq

pub context_sync : (a : NamedLft) (L R D K E Q : RattleType) (n : ExchangeName.Ghosts L.Denot) (g : EntryLog.Ghosts K.Denot) (e : PendingEntries.Ghosts E.Denot)
    (f : EntryLog.Ghosts E.Denot) (q : Recorder.Ghosts Q.Denot) (l : Ledger.Ghosts L.Denot) (h : HistoryName.Ghosts L.Denot)
    → IsSync R → IsSync D → IsSend K → IsSend E → IsSend Q → IsSync (HostContext.the_row a L R D K E Q n l h g e f q)
context_sync a L R D K E Q n g e f q l h r d sk se sq =
    let T = HostContext.the_type a L R D K E Q n l h g e f q in
    let x = exchange_sync L K E Q n h l g e f q sk se sq in
    let o = latch_sync in
    recorded_sync (HostContext.the_field a L R D K E Q n l h g e f q).row _ _ T.to_one
    (struct_sync (shape T) (
      search (crosses, sendable) depth 20,
      (
        search (crosses, sendable) depth 20,
        (
          search (crosses, sendable) depth 20,
          (search (crosses, sendable) depth 20, (search (crosses, sendable) depth 20, (search (crosses, sendable) depth 20, tt))),
        ),
      ),
    ))
