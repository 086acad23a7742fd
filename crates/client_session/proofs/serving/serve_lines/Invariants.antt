use Rattle.client_session.specs.Asking.{GivesEachTime}
use Rattle.client_session.specs.Bytes.{fuel}
use Rattle.client_session.specs.Listening.{TellsOfRefusals}
use Rattle.client_session.specs.Sessions.{IsAllRecorded}
use Rattle.client_session.proofs.Served.{Serving}
use Rattle.client_session.proofs.serving.serve_lines.Given as goal

abbrev pub invariant-loop-found : goal.invariant-loop-found
invariant-loop-found g l =
    (IsAllRecorded l.initial.seat → Serving 1 (g.I.CountedRead.remaining l.initial.reader) (g.I.CountedRead.remaining l.reader)
    (g.O.Write.contents l.initial.writer) (g.O.Write.contents l.writer) l.initial.seat l.seat l.input l.held)
    × GivesEachTime (g.I.CountedRead.asked l.initial.reader) (g.I.CountedRead.asked l.reader) 0 l.input.reads
    × TellsOfRefusals g.H.Listener.may_tell (g.H.Listener.told l.initial.listener) (g.H.Listener.told l.listener)

abbrev pub decreases-loop-found : goal.decreases-loop-found
decreases-loop-found g l = fuel l.input
