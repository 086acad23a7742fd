-- An exchange may be shared, and a seat may go to another thread. In parts, since a search through
-- all that they hold runs out of steps.
use Rattle.std.proofs.Common.{rules}
use Rattle.std.proofs.Crossing.{crosses}
use Rattle.std.proofs.sync.Condvar.TheSendSync as condvar
use Rattle.std.proofs.sync.Mutex.TheSendSync as mutex
use Rattle.std.proofs.sync.ledger.Book.TheSendSync as total
use Rattle.std.specs.declared.sync.ledger.Ledger as Ledger
use Rattle.progress_word.proofs.word.ProgressWord.TheSendSync as word
use Rattle.batch.proofs.shape.Shape.TheSendSync as extent
use Rattle.crossbar.specs.declared.port.ConfigPort as ConfigPort
use Rattle.peek_poke.specs.declared.wire.Wire as Wire
use Rattle.peek_poke.specs.declared.wire.WireMaker as WireMaker
use Rattle.crossbar.specs.contracts.port.MemoryPort as MemoryPort
use Rattle.crossbar.specs.contracts.port.MemoryPortConfigPort.TheImpl as port
use Rattle.crossbar.proofs.port.MemoryPort.TheSendSync as memory_port
use Rattle.peek_poke.specs.contracts.plain.PlainWire as PlainWire
use Rattle.peek_poke.specs.contracts.plain.PlainWires as PlainWires
use Rattle.peek_poke.specs.contracts.plain.PlainWireWire.TheImpl as wire
use Rattle.peek_poke.specs.contracts.plain.PlainWiresWireMaker.TheImpl as wires
use Rattle.peek_poke.proofs.plain.PlainWires.TheSendSync as plain_wires
use Rattle.schedule_certificate.specs.contracts.gate.OpenGate as OpenGate
use Rattle.schedule_certificate.proofs.gate.OpenGate.TheSendSync as open_gate
use Rattle.session_lists.specs.declared.keeper.HistoryName as HistoryName
use Rattle.session_lists.specs.contracts.keeper.Keeper as Keeper
use Rattle.session_lists.specs.contracts.keeper.OwnList as OwnList
use Rattle.session_lists.proofs.keeper.Keeper.TheSendSync as keeper
use Rattle.session_lists.proofs.keeper.OwnList.TheSendSync as own
use Rattle.setting_runner.proofs.plant.Plant.TheSendSync as plant
use Rattle.batch_book.specs.declared.entry_log.EntryLog as EntryLog
use Rattle.batch_book.specs.declared.naming.ExchangeName as ExchangeName
use Rattle.batch_book.specs.declared.recorder.Recorder as Recorder
use Rattle.batch_book.specs.declared.pending_entries.PendingEntries as PendingEntries
use Rattle.batch_book.specs.contracts.book.Book as Book
use Rattle.batch_book.specs.contracts.book_state.BookState as BookState
use Rattle.batch_book.specs.contracts.entry.Entry as Entry
use Rattle.batch_book.specs.contracts.memory_history.MemoryHistory as MemoryHistory
use Rattle.batch_book.specs.contracts.memory_history.MemoryHistoryEntryLog.TheImpl as kept
use Rattle.batch_book.specs.contracts.locked.LockedBook as LockedBook
use Rattle.batch_book.specs.contracts.noted.NotedEntry as NotedEntry
use Rattle.batch_book.specs.contracts.noted.NotedEntrySessionItem.TheImpl.{ghosts}
use Rattle.batch_book.specs.contracts.writer_state.WriterState as WriterState
use Rattle.batch_book.specs.contracts.recorder.NoRecorder as NoRecorder
use Rattle.batch_book.specs.contracts.recorder.NoRecorderRecorder.TheImpl as no_recorder
use Rattle.batch_book.specs.contracts.seat.SeatInner as SeatInner
use Rattle.batch_book.specs.contracts.seat.Seat as Seat
use Rattle.batch_book.specs.contracts.shared.Shared as Shared
use Rattle.batch_book.specs.contracts.shared.Shared.TheInside as Inside
use Rattle.batch_book.specs.contracts.shared.Locks as Locks
use Rattle.batch_book.specs.contracts.commit_queue.CommitQueue as CommitQueue
use Rattle.batch_book.specs.contracts.null_history.NullHistory as NullHistory
use Rattle.batch_book.specs.contracts.null_history.NullHistoryEntryLog.TheImpl as silent_log
use Rattle.batch_book.specs.contracts.null_history.NullHistoryPendingEntries.TheImpl as silent
use Rattle.batch_book.specs.contracts.writer_state.GroupCommit as GroupCommit
use denote.Enum.Declared as enum
use Rattle.batch_book.proofs.access.ExchangeAccess.TheSendSync as access
use denote.RattleType.{RattleType}
use denote.Param.Send.{IsSend, IsSync, enum_sync, recorded_send, recorded_sync, struct_send, struct_sync, view_sync, sendable}
use denote.Struct.Declared.{shape}

entry_send : IsSend Entry.the_row
entry_send = search (crosses, sendable) depth 60 fits 20000

kept_send : IsSend MemoryHistory.the_row
kept_send = let e = entry_send in search (crosses, sendable) depth 60 fits 20000

silent_send : IsSend NullHistory.the_row
silent_send = search rules

no_recorder_send : IsSend NoRecorder.the_row
no_recorder_send = search sendable depth 20

noted_send : IsSend NotedEntry.the_row
noted_send = search (crosses, sendable) depth 60 fits 20000

book_send : (H : RattleType) (g : EntryLog.Ghosts H.Denot) → IsSend H → IsSend (Book.the_row H g)
book_send H g s = search (crosses, sendable) depth 60 fits 20000

module _ (L : RattleType) (n : ExchangeName.Ghosts L.Denot) (h : HistoryName.Ghosts L.Denot) (l : Ledger.Ghosts L.Denot) where
  keeper_send : IsSend (Keeper.the_row NotedEntry.the_row L ghosts h)
  keeper_send = keeper.the_send NotedEntry.the_row L ghosts h noted_send

  place_send : IsSend (SeatInner.the_field L n h l).row
  place_send = struct_send (shape (SeatInner.the_type L n h l)) (
    access.the_field_send L n h l,
    (own.the_send NotedEntry.the_row L h noted_send, (search sendable depth 20, (search sendable depth 20, (search sendable depth 20, tt)))),
  )

  pub seat_send : IsSend (Seat.the_row L n h l)
  seat_send = let p = place_send in search sendable depth 20

  noted_list_send : IsSend (OwnList.the_row NotedEntry.the_row L h)
  noted_list_send = own.the_send NotedEntry.the_row L h noted_send

  module _ (E : RattleType) (e : PendingEntries.Ghosts E.Denot) (f : EntryLog.Ghosts E.Denot) where
    waiting_send : IsSend (CommitQueue.the_row L E n h e f l)
    waiting_send =
        let T = CommitQueue.the_type L E n h e f l in
        recorded_send (CommitQueue.the_field L E n h e f l).row _ _ T.to_one
        (struct_send (shape T) (
          search (crosses, sendable) depth 40,
          (
            search sendable depth 20,
            (
              search sendable depth 20,
              (
                search sendable depth 20,
                (
                  search sendable depth 20,
                  (
                    search sendable depth 20,
                    (search (crosses, sendable) depth 40, (total.the_send L l, (keeper_send, (search (crosses, sendable) depth 20, tt)))),
                  ),
                ),
              ),
            ),
          ),
        ))

  module _ (P W G H I : RattleType) (p : ConfigPort.Ghosts P.Denot) (w : WireMaker.Ghosts W.Denot I.Denot) (i : Wire.Ghosts I.Denot) where
    locked_send : (g : EntryLog.Ghosts H.Denot) → IsSend P → IsSend W → IsSend G → IsSend H → IsSend (LockedBook.the_row L P W G H I n h p w i g l)
    locked_send g sp sw sg sh =
        let T = LockedBook.the_type L P W G H I n h p w i g l in
        recorded_send (LockedBook.the_field L P W G H I n h p w i g l).row _ _ T.to_one
        (struct_send (shape T) (book_send H g sh, (plant.the_field_send P W G sp sw sg, (total.the_send L l, (keeper_send, tt)))))

    book_side_send : (E : RattleType) (e : PendingEntries.Ghosts E.Denot) (f : EntryLog.Ghosts E.Denot) → IsSend P → IsSend W → IsSend G → IsSend E
        → IsSend (BookState.the_row L P W G E I n l h p w i e f)
    book_side_send E e f sp sw sg se =
        let T = BookState.the_type L P W G E I n l h p w i e f in
        let o = noted_list_send in
        recorded_send (BookState.the_field L P W G E I n l h p w i e f).row _ _ T.to_one
        (struct_send (shape T) (book_send E f se, (plant.the_field_send P W G sp sw sg, (search (crosses, sendable) depth 40, (search sendable depth 20, tt)))))

    module _ (E Q : RattleType) (g : EntryLog.Ghosts H.Denot) (e : PendingEntries.Ghosts E.Denot) (f : EntryLog.Ghosts E.Denot) (q : Recorder.Ghosts Q.Denot)
      where
        record_send : IsSend Q → IsSend (WriterState.the_row L H E Q n l h g e f q)
        record_send s =
            let T = WriterState.the_type L H E Q n l h g e f q in
            let o = noted_list_send in
            recorded_send (WriterState.the_field L H E Q n l h g e f q).row _ _ T.to_one
            (struct_send (shape T) (s, (search (crosses, sendable) depth 40, (search (crosses, sendable) depth 40, (search (crosses, sendable) depth 40, tt)))))

        detached_sync : IsSend P → IsSend W → IsSend G → IsSend E → IsSend Q → IsSync (GroupCommit.the_field L P W G H I E Q n l h p w i g e f q).row
        detached_sync sp sw sg se sq =
            struct_sync (shape (GroupCommit.the_type L P W G H I E Q n l h p w i g e f q)) (
              mutex.the_sync _ (book_side_send E e f sp sw sg se),
              (mutex.the_sync _ (waiting_send E e f), (condvar.the_field_sync, (condvar.the_field_sync, (mutex.the_sync _ (record_send sq), tt)))),
            )

        sides_sync : IsSend P → IsSend W → IsSend G → IsSend H → IsSend E → IsSend Q → IsSync (Locks.the_field L P W G H I E Q n l h p w i g e f q).row
        sides_sync sp sw sg sh se sq =
            let T = Locks.the_type L P W G H I E Q n l h p w i g e f q in
            enum_sync (enum.shape T) ((mutex.the_sync _ (locked_send g sp sw sg sh), tt), ((detached_sync sp sw sg se sq, tt), tt))

        pub any_shared_sync : IsSend P → IsSend W → IsSend G → IsSend H → IsSend E → IsSend Q → IsSync (Shared.the_row L P W G H I E Q n l h p w i g e f q)
        any_shared_sync sp sw sg sh se sq =
            let T = Inside.the_type L P W G H I E Q n l h p w i g e f q in
            view_sync (Inside.the_row L P W G H I E Q n l h p w i g e f q) _ _ _ _
            (recorded_sync (Inside.the_field L P W G H I E Q n l h p w i g e f q).row _ _ T.to_one
            (struct_sync (shape T) (sides_sync sp sw sg sh se sq, (word.the_sync, (extent.the_sync, tt)))))

  -- where the history is kept in memory
  pub shared_sync : (P W G I : RattleType) (p : ConfigPort.Ghosts P.Denot) (w : WireMaker.Ghosts W.Denot I.Denot) (i : Wire.Ghosts I.Denot) → IsSend P
      → IsSend W → IsSend G
      → IsSync (Shared.the_row L P W G MemoryHistory.the_row I NullHistory.the_row NoRecorder.the_row n l h p w i kept.ghosts silent.ghosts silent_log.ghosts
      no_recorder.ghosts)
  shared_sync P W G I p w i sp sw sg = any_shared_sync P W G MemoryHistory.the_row I p w i NullHistory.the_row NoRecorder.the_row kept.ghosts silent.ghosts
      silent_log.ghosts no_recorder.ghosts sp sw sg kept_send silent_send no_recorder_send

-- and port and wires never fail
pub plain_sync : (L : RattleType) (n : ExchangeName.Ghosts L.Denot) (h : HistoryName.Ghosts L.Denot) (l : Ledger.Ghosts L.Denot)
    → IsSync (Shared.the_row L MemoryPort.the_row PlainWires.the_row OpenGate.the_row MemoryHistory.the_row PlainWire.the_row NullHistory.the_row
    NoRecorder.the_row n l h port.ghosts wires.ghosts wire.ghosts kept.ghosts silent.ghosts silent_log.ghosts no_recorder.ghosts)
plain_sync L n h l = shared_sync L n h l MemoryPort.the_row PlainWires.the_row OpenGate.the_row PlainWire.the_row port.ghosts wires.ghosts wire.ghosts
    memory_port.the_send plain_wires.the_send open_gate.the_send
