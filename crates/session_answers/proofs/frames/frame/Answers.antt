use Rattle.std.proofs.Common.{arith}
use Rattle.session_answers.proofs.Sessions.{one_more_text}
use Rattle.session_answers.proofs.frames.frame.Goals as goal

pub loop-session-preserved : goal.loop-session-preserved
loop-session-preserved g c =
    one_more_text c.args.sessions.now c.loop-session.session-index c.session-item.result c.loop-session.text.items c.push_session.new.text.items (omega arith)
    c.session-item.is c.loop-session.invariant c.in_ok-push_session.ensures
