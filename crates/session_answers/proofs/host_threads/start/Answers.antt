use Rattle.std.proofs.Crossing.{crosses}
use Rattle.batch_book.proofs.Crossing.{seat_send}
use Rattle.session_answers.proofs.Crossing.{context_sync, token_send}
use Rattle.session_answers.proofs.host_threads.start.Goals as goal
use denote.Ref.{NamedLft}
use denote.Param.{param}
use denote.Param.Send.{sendable}

pub spawn_with-requires-send-F : goal.spawn_with-requires-send-F
spawn_with-requires-send-F g c κs within =
    let r = c.type_bounds.sync-R in
    let d = c.type_bounds.sync-D in
    let k = c.type_bounds.send-K in
    let p = c.type_bounds.send-D-Pass in
    let e = c.type_bounds.send-K-Pending in
    let q = c.type_bounds.send-K-Recorder in
    let x = λ (a : NamedLft). context_sync a (param 1 g.row.L) _ _ _ _ _ g.L.ExchangeName g.K.EntryLog g.K.Pending.PendingEntries g.K.Pending.EntryLog
    g.K.Recorder.Recorder g.L.Ledger g.L.HistoryName r d k e q in
    let s = seat_send (param 1 g.row.L) g.L.ExchangeName g.L.HistoryName g.L.Ledger in
    search (crosses, sendable) depth 60 fits 20000

pub spawn_with-requires-send-T : goal.spawn_with-requires-send-T
spawn_with-requires-send-T g c κs within =
    let k = c.type_bounds.send-D-Receipt in
    let s = seat_send (param 1 g.row.L) g.L.ExchangeName g.L.HistoryName g.L.Ledger in
    search (token_send, crosses, sendable) depth 60 fits 20000
