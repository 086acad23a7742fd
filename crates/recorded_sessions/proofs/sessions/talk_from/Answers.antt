use Rattle.std.proofs.Common.{ap}
use Rattle.std.specs.Prelude.{is_some}
use Rattle.recorded_sessions.proofs.Lived.{over_recorded_from, over_silent_from, talk_settled}
use Rattle.recorded_sessions.proofs.sessions.talk_from.Goals as goal

pub returns-in-Some-clause-session : goal.returns-in-Some-clause-session
returns-in-Some-clause-session g c =
    let t = c.talk_recorded.ensures.session in (
      t.0,
      t.1,
      t.2,
      over_recorded_from g.F.Write.contents c.args.start c.in-Some.stream t.1 c.talk_recorded.result c.in-Some.is c.talk_recorded.ensures.stream
          t.3,
      rw (ap is_some c.in-Some.is) t.4,
    )

pub returns-in-None-clause-session : goal.returns-in-None-clause-session
returns-in-None-clause-session g c =
    let t = c.talk_over-end.ensures.session in
    let left = c.talk_over-end.result.1 in
    let settled = talk_settled _ c.args.start.book c.requires.ready _ _ t.0 c.talk_over-end.result.0 left t.2 in (
      t.0,
      left,
      t.1,
      over_silent_from g.F.Write.contents c.args.start left c.finish_unrecorded.result c.in-None.is settled c.finish_unrecorded.ensures.machine
          c.finish_unrecorded.ensures.whole c.finish_unrecorded.ensures.stream,
      rw (ap is_some c.in-None.is, c.finish_unrecorded.ensures.end) t.2,
    )
