use Rattle.std.proofs.Common.{Some, None}
use Rattle.session_answers.proofs.Sessions.{its_session}
use Rattle.session_answers.proofs.plain_exchange.serve_client.Goals as goal

pub returns-in-Ok-clause-session : goal.returns-in-Ok-clause-session
returns-in-Ok-clause-session g c = its_session g.K.EntryLog.loses c.args.exchange.now c.args.seat c.in-Ok.seat _ _ _ _ None c.requires.seat c.in-Ok.ensures.seat
    c.in-Ok.ensures.session c.in-Ok.ensures.loses

pub returns-in-Err-clause-session : goal.returns-in-Err-clause-session
returns-in-Err-clause-session g c = its_session g.K.EntryLog.loses c.args.exchange.now c.args.seat c.in-Err.seat _ _ _ _ (Some c.in-Err.fault) c.requires.seat
    c.in-Err.ensures.seat c.in-Err.ensures.session c.in-Err.ensures.loses
