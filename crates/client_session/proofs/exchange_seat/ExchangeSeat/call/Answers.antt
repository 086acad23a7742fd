use Rattle.client_session.proofs.Calling.{called, uncalled}
use Rattle.client_session.proofs.exchange_seat.ExchangeSeat.call.Goals as goal

pub returns-clause-ok : goal.returns-clause-ok
returns-clause-ok g c = rw (← c.self.view_is) (called g.X.Entries.EntryLog.loses c.self.inside.shared.now.shape c.self.inside.seat c.try_call.new.seat
    c.args.call c.try_call.result c.try_call.ensures.asked c.try_call.ensures.reply)

pub returns-clause-err : goal.returns-clause-err
returns-clause-err g c = rw (← c.self.view_is) (uncalled g.X.Entries.EntryLog.loses c.self.inside.shared.now.shape c.self.inside.seat c.try_call.new.seat
    c.args.call c.try_call.result c.try_call.ensures.asked)
