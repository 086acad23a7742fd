use Rattle.std.proofs.Common.{ap}
use Rattle.std.proofs.lemmas.Result.{err_from_is_err_and}
use Rattle.client_session.specs.Seats.{seat_view}
use Rattle.client_session.proofs.exchange_seat.ExchangeSeat.sync.Goals as goal

pub returns-clause-ok : goal.returns-clause-ok
returns-clause-ok g c =
    rw (← c.self.view_is) (ap (seat_view g.X.Entries.EntryLog.loses c.self.inside.shared.now.shape) (rw c.in_ok-sync.was at c.sync.ensures.settled))

pub returns-in_err-sync-clause-err : goal.returns-in_err-sync-clause-err
returns-in_err-sync-clause-err g c =
    let p = err_from_is_err_and c.from_residual.result c.from_residual.ensures.1 in
    rw (p.1, ← c.self.view_is) (ap (seat_view g.X.Entries.EntryLog.loses c.self.inside.shared.now.shape) (rw c.in_err-sync.was at c.sync.ensures.settled))
