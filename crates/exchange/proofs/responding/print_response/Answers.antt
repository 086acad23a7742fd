use Rattle.std.proofs.Common.{◌≡◌, refl, subst, sym}
use Rattle.named_files.specs.Clients.{clients_by, ends_of}
use Rattle.exchange.specs.Ends.{IsLeft, IsNoneLeft, leaving, streams_of}
use Rattle.exchange.specs.Outcomes.{IsUnanswered}
use Rattle.exchange.specs.Keeping.{AreKeptBut}
use Rattle.named_files.specs.Outputs.{no_write_failures}
use Rattle.exchange.specs.Responses.{IsJobCut, Response, given_by, named_by}
use Rattle.exchange.proofs.Told.{answered, answered_in_part, asked, none_opened_for, not_answered, opened_for, refused_in_part}
use Rattle.exchange.proofs.responding.print_response.Goals as goal

pub returns-in-Ok-end-clause-done : goal.returns-in-Ok-end-clause-done
returns-in-Ok-end-clause-done g c =
    let t = rw c.in-Ok-end.is at c.run_job-end.ensures.ended.response in
    let note = rw c.in-Ok-end.is at c.run_job-end.ensures.ended.note in
    let apart = rw c.in-Ok-end.is at c.run_job-end.ensures.ended.apart in
    let done = c.in-Ok-end.done in
    let opens = g.P.Ports.ways c.run_job-end.new.peers.ports in
    let ended = ends_of c.run_job-end.new.peers.endings.items in
    let response : Response = record { told = t.0; end = done.answer; left = t.2.0; ports = opens; ends = ended } in
    let kept : done.lost ≡ no_write_failures → IsLeft (g.S.System.holds c.args.system.now) g.S.System.received c.run_job-end.result.receipts opens ended
    c.in-Ok.request.job response =
    λ none. (
      subst (AreKeptBut (g.S.System.holds c.args.system.now) g.S.System.received c.in-Ok.request.job t.2.0 c.run_job-end.result.receipts) none t.2.2,
      refl,
      refl,
    ) in
    let named = named_by (g.S.System.holds c.args.system.now) (g.S.PathLookup.leads c.args.system.now) in
    let given = given_by (g.I.Read.remaining c.args.input.now) (g.P.Ports.ways c.args.peers.now.ports)
    (clients_by (g.S.ClientFiles.says c.args.system.now) (g.S.ClientFiles.had c.args.system.now)) in
    let ends = ends_of c.run_job-end.new.peers.endings.items in
    let keeps = IsLeft (g.S.System.holds c.args.system.now) g.S.System.received c.run_job-end.result.receipts (g.P.Ports.ways c.run_job-end.new.peers.ports)
    ends in
    let none_left = IsNoneLeft c.run_job-end.result.receipts (g.P.Ports.ways c.args.peers.now.ports) (g.P.Ports.ways c.run_job-end.new.peers.ports) ends in
    let streams = streams_of (g.O.Write.contents c.args.out.now) (g.O.Write.contents c.print_noted.new.out) (g.E.Write.contents c.args.err.now)
    (g.E.Write.contents c.print_noted.new.err) in
    asked c.print_noted.result named keeps none_left _ given c.in-Ok.request streams c.in-Ok.ensures.request
    (answered c.print_noted.result named keeps given c.in-Ok.request t.0 t.2.0 opens ended done _ _ _ _ _ _ t.1 apart t.2.1 kept note
    c.run_job-end.ensures.ended.beside c.print_noted.ensures.printed c.print_noted.ensures.told)

pub returns-in-Ok-clause-done : goal.returns-in-Ok-clause-done
returns-in-Ok-clause-done g c =
    let t = rw c.in-Err-end.is at c.run_job-end.ensures.ended.response in
    let note = rw c.in-Err-end.is at c.run_job-end.ensures.ended.note in
    let unkept = rw c.in-Err-end.is at c.run_job-end.ensures.ended.unkept in
    let named = named_by (g.S.System.holds c.args.system.now) (g.S.PathLookup.leads c.args.system.now) in
    let given = given_by (g.I.Read.remaining c.args.input.now) (g.P.Ports.ways c.args.peers.now.ports)
    (clients_by (g.S.ClientFiles.says c.args.system.now) (g.S.ClientFiles.had c.args.system.now)) in
    let ends = ends_of c.run_job-end.new.peers.endings.items in
    let keeps = IsLeft (g.S.System.holds c.args.system.now) g.S.System.received c.run_job-end.result.receipts (g.P.Ports.ways c.run_job-end.new.peers.ports)
    ends in
    let none_left = IsNoneLeft c.run_job-end.result.receipts (g.P.Ports.ways c.args.peers.now.ports) (g.P.Ports.ways c.run_job-end.new.peers.ports) ends in
    let streams = streams_of (g.O.Write.contents c.args.out.now) (g.O.Write.contents c.print_failure.new.out) (g.E.Write.contents c.args.err.now)
    (g.E.Write.contents c.print_failure.new.err) in
    asked c.print_failure.result named keeps none_left _ given c.in-Ok.request streams c.in-Ok.ensures.request
    (not_answered c.print_failure.result named keeps given c.in-Ok.request t.0 c.in-Err-end.missed
    (IsUnanswered (g.P.Ports.ways c.args.peers.now.ports) (g.P.Ports.ways c.run_job-end.new.peers.ports) ends)
    (IsJobCut named given c.in-Ok.request.job (g.P.Ports.ways c.run_job-end.new.peers.ports) ends) _ _ _ _ _ _ t.1 t.3
    (λ none. (none.0, λ end. (unkept, sym none.1, sym none.2))) note c.run_job-end.ensures.ended.beside c.print_failure.ensures.printed
    c.print_failure.ensures.told)

pub returns-in-Ok-end-clause-cut : goal.returns-in-Ok-end-clause-cut
returns-in-Ok-end-clause-cut g c =
    let t = rw c.in-Ok-end.is at c.run_job-end.ensures.ended.response in
    let apart = rw c.in-Ok-end.is at c.run_job-end.ensures.ended.apart in
    let named = named_by (g.S.System.holds c.args.system.now) (g.S.PathLookup.leads c.args.system.now) in
    let was = g.P.Ports.ways c.args.peers.now.ports in
    let given = given_by (g.I.Read.remaining c.args.input.now) was
    (clients_by (g.S.ClientFiles.says c.args.system.now) (g.S.ClientFiles.had c.args.system.now)) in
    let leaves = leaving (g.S.System.holds c.args.system.now) g.S.System.received c.run_job-end.result.receipts was
    (g.P.Ports.ways c.run_job-end.new.peers.ports) (ends_of c.run_job-end.new.peers.endings.items) in
    answered_in_part c.print_noted.result named leaves _ given c.in-Ok.request t.0 t.2.0 c.in-Ok-end.done _ _ _ c.in-Ok.ensures.request t.1 apart t.2.1
    ((c.in-Ok-end.done.lost, t.2.2), refl, refl) c.print_noted.ensures.unwritten

pub returns-in-Ok-clause-cut : goal.returns-in-Ok-clause-cut
returns-in-Ok-clause-cut g c =
    let t = rw c.in-Err-end.is at c.run_job-end.ensures.ended.response in
    let ended = ends_of c.run_job-end.new.peers.endings.items in
    let was = g.P.Ports.ways c.args.peers.now.ports in
    let opens = g.P.Ports.ways c.run_job-end.new.peers.ports in
    let given = given_by (g.I.Read.remaining c.args.input.now) was
    (clients_by (g.S.ClientFiles.says c.args.system.now) (g.S.ClientFiles.had c.args.system.now)) in
    let unkept = rw c.in-Err-end.is at c.run_job-end.ensures.ended.unkept in
    let named = named_by (g.S.System.holds c.args.system.now) (g.S.PathLookup.leads c.args.system.now) in
    let leaves = leaving (g.S.System.holds c.args.system.now) g.S.System.received c.run_job-end.result.receipts was opens ended in
    refused_in_part c.print_failure.result named leaves _ given c.in-Ok.request t.0 c.in-Err-end.missed (IsUnanswered was opens ended) _ _ _
    c.in-Ok.ensures.request t.1 t.3 (λ none. (none.0, λ end. ((no_write_failures, unkept), sym none.1, sym none.2))) unkept c.print_failure.ensures.cut

pub returns-in-Ok-end-clause-opened : goal.returns-in-Ok-end-clause-opened
returns-in-Ok-end-clause-opened g c =
    opened_for _ c.in-Ok.request _ (g.S.ClientFiles.passes c.run_job-end.new.peers.desk) _ _ c.in-Ok.ensures.request c.run_job-end.ensures.admitted
    c.run_job-end.ensures.read c.requires.unread

pub returns-in-Ok-clause-opened : goal.returns-in-Ok-clause-opened
returns-in-Ok-clause-opened g c =
    opened_for _ c.in-Ok.request _ (g.S.ClientFiles.passes c.run_job-end.new.peers.desk) _ _ c.in-Ok.ensures.request c.run_job-end.ensures.admitted
    c.run_job-end.ensures.read c.requires.unread

pub returns-clause-opened : goal.returns-clause-opened
returns-clause-opened g c = none_opened_for _ c.args.peers.now.endings.items _ _ c.requires.unserved c.requires.no_passes c.requires.unread
