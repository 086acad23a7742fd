use Rattle.std.proofs.Common.{false}
use Rattle.session_answers.specs.Hosting.{begun_at}
use Rattle.session_answers.proofs.Sessions.{its_script, script_at}
use Rattle.session_answers.proofs.serving.serve_script.Goals as goal

pub returns-clause-served : goal.returns-clause-served
returns-clause-served g c =
    its_script (begun_at false c.args.exchange.now c.args.seat.seen) _ c.args.seat c.serve_client-seat.result.0 c.as_slice-reader.result.now
    c.serve_client-seat.new.reader.now c.serve_client-seat.new.writer.items c.serve_client-seat.result.1 c.serve_client-seat.ensures.same
    (script_at _ c.args.scripts.now c.args.seat.session c.session.result c.index-scripts-session.result c.as_slice-reader.result.now c.session.ensures
    c.requires.seat.1 c.index-scripts-session.is c.as_slice-reader.ensures.value)
    (rw c.new-told.ensures.items at c.serve_client-seat.ensures.session)
