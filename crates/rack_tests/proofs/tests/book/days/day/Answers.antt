use Rattle.std.proofs.Crossing.{crosses}
use Rattle.batch_book.proofs.Crossing.{plain_sync, seat_send}
use Rattle.rack_tests.proofs.tests.book.days.day.Goals as goal
use denote.Param.{param}
use denote.Param.Send.{sendable}

pub map_vec-requires-send-J : goal.map_vec-requires-send-J
map_vec-requires-send-J g c κs within = search (seat_send, crosses, sendable) depth 60 fits 20000

pub map_vec-requires-send-X : goal.map_vec-requires-send-X
map_vec-requires-send-X g c κs within = search (seat_send, crosses, sendable) depth 60 fits 20000

pub map_vec-requires-sync-F : goal.map_vec-requires-sync-F
map_vec-requires-sync-F g c κs within =
    let r = c.type_bounds.sync-R in
    let x = plain_sync (param 0 g.row.L) g.L.ExchangeName g.L.HistoryName g.L.Ledger in
    search (crosses, sendable) depth 60 fits 20000
