use Rattle.std.proofs.Common.{arith, sym}
use Rattle.std.proofs.lemmas.List.{length-map}
use Rattle.session_answers.proofs.Sessions.{both, all_served}
use Rattle.std.proofs.Crossing.{crosses}
use Rattle.batch_book.proofs.Crossing.{plain_sync, seat_send}
use Rattle.session_answers.proofs.serving.serve_all.Goals as goal
use denote.Param.{param}
use denote.Param.Send.{sendable}

pub returns : goal.returns
returns g c =
    both c.map_vec.result c.map_vec.ensures.len c.map_vec.ensures.each
    (λ sessions len each.
    all_served c.args.exchange.now _ _ _ c.args.seats.items sessions.items (sym (length-map c.args.scripts.now _)) c.requires.seats
    (omega (arith, len, sessions.ok.0, c.args.seats.ok.0))
    (λ k s lt. let j = (each k s lt).1 in record { seat = j.job; at = j.job_is; same = j.call.met.0; its = j.call.met.1 }))

pub map_vec-requires-send-J : goal.map_vec-requires-send-J
map_vec-requires-send-J g c κs within = search (seat_send, crosses, sendable) depth 60 fits 20000

pub map_vec-requires-send-X : goal.map_vec-requires-send-X
map_vec-requires-send-X g c κs within = search (seat_send, crosses, sendable) depth 60 fits 20000

pub map_vec-requires-sync-F : goal.map_vec-requires-sync-F
map_vec-requires-sync-F g c κs within =
    let r = c.type_bounds.sync-R in
    let x = plain_sync (param 0 g.row.L) g.L.ExchangeName g.L.HistoryName g.L.Ledger in
    search (crosses, sendable) depth 60 fits 20000
