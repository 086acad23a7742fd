use Rattle.std.proofs.Common.{Some, None}
use Rattle.client_session.proofs.Served.{seat_kept, session_kept, told_at_first, told_after}
use Rattle.client_session.proofs.serving.serve.Goals as goal

pub returns-in-Ok-clause-seat : goal.returns-in-Ok-clause-seat
returns-in-Ok-clause-seat g c = seat_kept _ _ _ _ g.K.EntryLog.loses c.args.shared.now.shape c.args.seat c.into_seat-seat.result _ c.serve_seat-ended.new.seat _
    c.new-exchange_seat.ensures c.into_seat-seat.ensures
    (c.serve_seat-ended.ensures.session (told_at_first g.K.EntryLog.loses c.args.shared.now.shape c.args.seat _ c.new-exchange_seat.ensures c.requires.told))

pub returns-in-Ok-clause-session : goal.returns-in-Ok-clause-session
returns-in-Ok-clause-session g c = session_kept _ _ _ _ g.K.EntryLog.loses c.args.shared.now.shape c.args.seat c.into_seat-seat.result _
    c.serve_seat-ended.new.seat None c.new-exchange_seat.ensures c.into_seat-seat.ensures
    (c.in-Ok.ensures.session (told_at_first g.K.EntryLog.loses c.args.shared.now.shape c.args.seat _ c.new-exchange_seat.ensures c.requires.told))

pub returns-in-Err-clause-seat : goal.returns-in-Err-clause-seat
returns-in-Err-clause-seat g c = seat_kept _ _ _ _ g.K.EntryLog.loses c.args.shared.now.shape c.args.seat c.into_seat-seat.result _ c.serve_seat-ended.new.seat
    _ c.new-exchange_seat.ensures c.into_seat-seat.ensures
    (c.serve_seat-ended.ensures.session (told_at_first g.K.EntryLog.loses c.args.shared.now.shape c.args.seat _ c.new-exchange_seat.ensures c.requires.told))

pub returns-in-Err-clause-session : goal.returns-in-Err-clause-session
returns-in-Err-clause-session g c = session_kept _ _ _ _ g.K.EntryLog.loses c.args.shared.now.shape c.args.seat c.into_seat-seat.result _
    c.serve_seat-ended.new.seat (Some c.in-Err.fault) c.new-exchange_seat.ensures c.into_seat-seat.ensures
    (c.in-Err.ensures.session (told_at_first g.K.EntryLog.loses c.args.shared.now.shape c.args.seat _ c.new-exchange_seat.ensures c.requires.told))

pub returns-in-Ok-clause-asks : goal.returns-in-Ok-clause-asks
returns-in-Ok-clause-asks g c = c.in-Ok.ensures.asks

pub returns-in-Err-clause-asks : goal.returns-in-Err-clause-asks
returns-in-Err-clause-asks g c = c.in-Err.ensures.asks

pub returns-in-Ok-clause-told : goal.returns-in-Ok-clause-told
returns-in-Ok-clause-told g c = λ none. told_after _ _ _ _ g.K.EntryLog.loses c.into_seat-seat.result _ c.serve_seat-ended.new.seat None
    c.into_seat-seat.ensures c.in-Ok.ensures.loses none
    (c.in-Ok.ensures.session (told_at_first g.K.EntryLog.loses c.args.shared.now.shape c.args.seat _ c.new-exchange_seat.ensures c.requires.told))

pub returns-in-Err-clause-told : goal.returns-in-Err-clause-told
returns-in-Err-clause-told g c = λ none. told_after _ _ _ _ g.K.EntryLog.loses c.into_seat-seat.result _ c.serve_seat-ended.new.seat (Some c.in-Err.fault)
    c.into_seat-seat.ensures c.in-Err.ensures.loses none
    (c.in-Err.ensures.session (told_at_first g.K.EntryLog.loses c.args.shared.now.shape c.args.seat _ c.new-exchange_seat.ensures c.requires.told))
