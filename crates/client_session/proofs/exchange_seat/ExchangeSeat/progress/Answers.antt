use Rattle.client_session.proofs.Calling.{progress_read}
use Rattle.client_session.proofs.exchange_seat.ExchangeSeat.progress.Goals as goal

pub returns : goal.returns
returns g c =
    let e = c.progress.ensures in
    rw (← c.self.view_is) (progress_read g.X.Entries.EntryLog.loses c.self.inside.shared.now.shape c.self.inside.seat c.progress.new.seat c.progress.result
    e.seat e.asked e.log e.broken e.later e.reading e.done)
