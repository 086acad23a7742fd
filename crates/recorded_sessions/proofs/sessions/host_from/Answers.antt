use Rattle.std.proofs.Common.{ap}
use Rattle.std.specs.Prelude.{is_some}
use Rattle.named_files.specs.Clients.{clients_by}
use Rattle.recorded_sessions.proofs.Lived.{host_settled, over_recorded_from, over_silent_from}
use Rattle.recorded_sessions.proofs.sessions.host_from.Goals as goal

pub returns-in-Some : goal.returns-in-Some
returns-in-Some g c =
    let t = c.host_recorded.ensures.over in
    record {
      over = (
        t.0,
        over_recorded_from g.S.Stream.Write.contents c.args.start c.in-Some.stream t.0 c.host_recorded.result c.in-Some.is
            c.host_recorded.ensures.stream t.1,
        rw (ap is_some c.in-Some.is) t.2,
      );
      admitted = c.host_recorded.ensures.admitted;
    }

pub returns-in-None : goal.returns-in-None
returns-in-None g c =
    let clients = clients_by (g.S.ClientFiles.says c.args.streams.now.system.now) (g.S.ClientFiles.had c.args.streams.now.system.now)
    c.args.streams.now.clients.now in
    let left = c.host_over-end.result.1 in
    let settled = host_settled _ c.args.start.book clients _ _ c.host_over-end.result.0 left c.host_over-end.ensures.over in
    record {
      over = (
        left,
        over_silent_from g.S.Stream.Write.contents c.args.start left c.finish_unrecorded.result c.in-None.is settled
            c.finish_unrecorded.ensures.machine c.finish_unrecorded.ensures.whole c.finish_unrecorded.ensures.stream,
        rw (ap is_some c.in-None.is, c.finish_unrecorded.ensures.end) c.host_over-end.ensures.over,
      );
      admitted = rw c.finish_unrecorded.ensures.end c.host_over-end.ensures.admitted;
    }
