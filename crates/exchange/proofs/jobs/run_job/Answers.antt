use Rattle.std.proofs.Common.{[], inl, refl}
use Rattle.std.proofs.KnownBytes.{Appends-nil}
use Rattle.exchange.specs.Outcomes.{IsUnanswered}
use Rattle.named_files.specs.Clients.{clients_by, ends_of}
use Rattle.named_files.specs.Contents.{contents_in}
use Rattle.named_files.proofs.Admitted.{none_admitted}
use Rattle.exchange.specs.Responses.{IsJobCut, given_by, named_by}
use Rattle.exchange.proofs.Comes.{always, err_finished, finish, none_of, refused_so, so_where_ok}
use Rattle.exchange.proofs.Told.{beside_of, none_served}
use Rattle.exchange.proofs.jobs.run_job.Goals as goal

pub run_job_on-end-requires-clause-named : goal.run_job_on-end-requires-clause-named
run_job_on-end-requires-clause-named g c = λ lifetimes bounds.
    so_where_ok c.open_distinct-outputs.result.1 _ c.in-Ok.ensures.opened c.open_distinct-outputs.ensures.named

pub returns-in-Err-clause-ended : goal.returns-in-Err-clause-ended
returns-in-Err-clause-ended g c =
    let given = given_by (g.I.Read.remaining c.args.input.now) (g.P.Ports.ways c.args.peers.now.ports)
    (clients_by (g.S.ClientFiles.says c.args.system.now) (g.S.ClientFiles.had c.args.system.now)) in
    let was = g.P.Ports.ways c.args.peers.now.ports in
    let ends = ends_of c.args.peers.now.endings.items in
    record {
      response = (
        [],
        Appends-nil _,
        tt,
        refused_so c.in-Err.missed (IsUnanswered was was ends)
            (IsJobCut (named_by (g.S.System.holds c.args.system.now) (g.S.PathLookup.leads c.args.system.now)) given c.args.request.now.job was ends) [] c.in-Err.ensures.note
            (refl, refl, none_served _ c.requires.unserved),
      );
      note = none_of c.in-Err.missed c.in-Err.ensures.note;
      beside = inl refl;
      apart = tt;
      unkept = c.close_outputs.ensures;
    }

pub returns-clause-ended : goal.returns-clause-ended
returns-clause-ended g c =
    let given = given_by (g.I.Read.remaining c.args.input.now) (g.P.Ports.ways c.args.peers.now.ports)
    (clients_by (g.S.ClientFiles.says c.args.system.now) (g.S.ClientFiles.had c.args.system.now)) in
    let held = c.run_job_on-end in
    let files = contents_in c.in-Ok.read.1 in
    let rest = g.I.Read.remaining c.read_opened.new.input in
    let named = named_by (g.S.System.holds c.args.system.now) (g.S.PathLookup.leads c.args.system.now) in
    let apart = so_where_ok c.open_distinct-outputs.result.1 _ c.in-Ok.ensures.opened c.open_distinct-outputs.ensures.apart in
    record {
      response = finish held.result.end c.finished.result _ _ named g.S.System.received c.args.request.now.job files rest given
          (g.P.Ports.ways held.new.peers.ports) (ends_of held.new.peers.endings.items) held.result.receipts held.result.lost
          c.finished.ensures.answer apart c.in-Ok.ensures.contents held.ensures.response;
      note = c.finished.ensures.note;
      beside = beside_of _ _ c.args.request.now _ _ (λ overlap. (files, rest, c.in-Ok.ensures.contents, overlap)) held.ensures.beside;
      apart = always c.finished.result _ apart;
      unkept = err_finished held.result.end held.result.lost c.finished.result _ c.finished.ensures.answer held.ensures.unkept;
    }

pub returns-in-Err-clause-admitted : goal.returns-in-Err-clause-admitted
returns-in-Err-clause-admitted g c = none_admitted _ c.args.peers.now.endings.items _ c.requires.unserved c.requires.no_passes

pub returns-clause-read : goal.returns-clause-read
returns-clause-read g c = rw c.run_job_on-end.ensures.reads c.read_opened.ensures.read
