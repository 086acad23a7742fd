use Rattle.command_words.specs.Jobs.{recorded_in}
use Rattle.named_files.specs.Streams.{written_at}
use Rattle.recorded_sessions.proofs.Started.{started_in, started_none, unstarted_in}
use Rattle.recorded_sessions.proofs.live.start_on.Goals as goal

pub returns-in-Some-clause-started : goal.returns-in-Some-clause-started
returns-in-Some-clause-started g c =
    started_in c.start_in.result (g.S.System.holds c.args.system.now) g.S.Stream.Write.contents c.args.shared.now.record_out c.args.rack c.args.names.now
    c.resumes.result c.in-Some.out (rw c.in-Some.is at c.requires.opened) c.resumes.ensures c.start_in.ensures.started c.start_in.ensures.cut
    c.start_in.ensures.entries

pub returns-in-Some-clause-unstarted : goal.returns-in-Some-clause-unstarted
returns-in-Some-clause-unstarted g c =
    unstarted_in c.start_in.result (g.S.System.holds c.args.system.now) g.S.Stream.Write.contents g.S.System.received c.args.shared.now.record_out c.args.rack
    c.args.names.now c.resumes.result c.in-Some.out (rw c.in-Some.is at c.requires.opened) c.resumes.ensures c.start_in.ensures.unstarted

pub returns-in-Ok-clause-started : goal.returns-in-Ok-clause-started
returns-in-Ok-clause-started g c =
    started_none (g.S.System.holds c.args.system.now) (written_at g.S.Stream.Write.contents (recorded_in c.args.shared.now)) c.args.shared.now.record_out
    c.args.rack c.args.names.now c.in-Ok.book (rw c.in-None.is at c.requires.named) c.in-Ok.ensures
