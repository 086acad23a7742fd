use Rattle.session_answers.proofs.HostedSessions.{was_served}
use Rattle.session_answers.proofs.host_threads.host_client.Goals as goal

pub returns : goal.returns
returns g c =
    was_served g.K.EntryLog.loses c.args.context.now.exchange.now (g.D.ClientStreams.known c.args.context.now.streams.now) g.D.ClientStreams.received
    c.args.seat c.serve_client-seat.result.0 _ _ _ _ _ _ c.close-receipt.result
    c.session.ensures c.in-Ok.ensures.reader c.in-Ok.ensures.writer c.close-receipt.ensures c.serve_client-seat.ensures.same c.serve_client-seat.ensures.session
