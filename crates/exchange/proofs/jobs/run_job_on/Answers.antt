use Rattle.std.proofs.Common.{[], ap, refl, rules}
use Rattle.std.proofs.KnownBytes.{Appends-nil}
use Rattle.named_files.specs.Clients.{clients_by}
use Rattle.named_files.specs.Contents.{contents_in}
use Rattle.named_files.proofs.Admitted.{none_admitted}
use Rattle.exchange.specs.Responses.{given_by}
use Rattle.exchange.proofs.Comes.{always_err, err_so, none_of, ok_so, on_err, told_kept, told_ports, told_texts}
use Rattle.exchange.proofs.Told.{host_beside, none_served, talk_beside, told_lines_more}
use Rattle.exchange.proofs.jobs.run_job_on.Goals as goal

pub returns-in-Texts-clause-response : goal.returns-in-Texts-clause-response
returns-in-Texts-clause-response g c =
    let w = c.without_sessions.ensures in
    let given = given_by (g.I.Read.remaining c.args.input.now) (g.P.Ports.ways c.args.peers.now.ports)
    (clients_by (g.S.ClientFiles.says c.args.system.now) (g.S.ClientFiles.had c.args.system.now)) in
    rw (c.in-Texts.is, w.end) (told_texts c.run_text_job-end.result _ (g.S.System.holds c.args.system.now) g.S.System.received c.in-Texts.job
    (contents_in c.args.contents.now) given _ _ _ _ c.run_text_job-end.ensures.text c.run_text_job-end.ensures.note (none_served _ c.requires.unserved)
    (rw c.in-Texts.is at w.unkept) w.lost)

pub returns-in-Texts-clause-note : goal.returns-in-Texts-clause-note
returns-in-Texts-clause-note g c = rw c.without_sessions.ensures.end (err_so c.run_text_job-end.result _ _ none_of c.run_text_job-end.ensures.note)

pub returns-in-Texts-clause-unkept : goal.returns-in-Texts-clause-unkept
returns-in-Texts-clause-unkept g c = always_err c.without_sessions.result.end _ c.without_sessions.ensures.unkept

pub returns-in-Ports-clause-response : goal.returns-in-Ports-clause-response
returns-in-Ports-clause-response g c =
    let w = c.without_sessions-in-Ports.ensures in
    let given = given_by (g.I.Read.remaining c.args.input.now) (g.P.Ports.ways c.args.peers.now.ports)
    (clients_by (g.S.ClientFiles.says c.args.system.now) (g.S.ClientFiles.had c.args.system.now)) in
    rw (c.in-Ports.is, w.end) (told_ports c.run_port_job-end.result _ _ (g.S.System.holds c.args.system.now) g.S.System.received c.in-Ports.job
    (contents_in c.args.contents.now) given _ _ _ _ _ c.run_port_job-end.ensures.response (none_served _ c.requires.unserved) (rw c.in-Ports.is at w.unkept)
    w.lost)

pub returns-in-Ports-clause-note : goal.returns-in-Ports-clause-note
returns-in-Ports-clause-note g c = rw c.without_sessions-in-Ports.ensures.end c.run_port_job-end.ensures.note

pub returns-in-Ports-clause-unkept : goal.returns-in-Ports-clause-unkept
returns-in-Ports-clause-unkept g c = always_err c.without_sessions-in-Ports.result.end _ c.without_sessions-in-Ports.ensures.unkept

pub returns-in-Serve-clause-response : goal.returns-in-Serve-clause-response
returns-in-Serve-clause-response g c =
    let none = none_served _ c.requires.unserved in
    rw (c.in-Sessions.is, c.in-Serve.is)
    (told_kept c.serve.result.end _ _ [] _ _ _ _ (Appends-nil _) (ok_so c.serve.result.end _ _ (λ found is. (is.0, (refl, (refl, is.1, none)), is.2))
    c.serve.ensures.answer) (err_so c.serve.result.end _ _ (λ m is. (is.0, refl, none)) c.serve.ensures.missed))

pub returns-in-Serve-clause-note : goal.returns-in-Serve-clause-note
returns-in-Serve-clause-note g c = err_so c.serve.result.end _ _ (λ m is. none_of m is.0) c.serve.ensures.missed

pub returns-in-Serve-clause-unkept : goal.returns-in-Serve-clause-unkept
returns-in-Serve-clause-unkept g c = rw (c.in-Sessions.is, c.in-Serve.is) (on_err c.serve.result.end _ _ (λ m is. is.1) c.serve.ensures.missed)

pub returns-in-Talk-clause-response : goal.returns-in-Talk-clause-response
returns-in-Talk-clause-response g c =
    let none = none_served _ c.requires.unserved in
    let t = c.talk.ensures.session in
    let rest = g.I.Read.remaining c.talk.new.input in
    rw (c.in-Sessions.is, c.in-Talk.is)
    (told_kept c.talk.result.end _ _ t.0 _ _ _ _ t.1 (ok_so c.talk.result.end _ _ (λ found is. (is.0, (refl, (rest, is.1, none)), is.2)) t.2.answer)
    (err_so c.talk.result.end _ _ (λ m is. (is.0, is.1, none)) t.2.missed))

pub returns-in-Talk-clause-note : goal.returns-in-Talk-clause-note
returns-in-Talk-clause-note g c = err_so c.talk.result.end _ _ (λ m is. none_of m is.0) c.talk.ensures.session.2.missed

pub returns-in-Talk-clause-unkept : goal.returns-in-Talk-clause-unkept
returns-in-Talk-clause-unkept g c = rw (c.in-Sessions.is, c.in-Talk.is) (on_err c.talk.result.end _ _ (λ m is. is.2) c.talk.ensures.session.2.missed)

pub returns-in-Talk-2-clause-response : goal.returns-in-Talk-2-clause-response
returns-in-Talk-2-clause-response g c =
    let none = none_served _ c.requires.unserved in
    let t = c.talk-kept.ensures.session in
    let rest = g.I.Read.remaining c.talk-kept.new.input in
    rw (c.in-Sessions.is, c.in-Talk-2.is)
    (told_kept c.talk-kept.result.end _ _ t.0 _ _ _ _ t.1 (ok_so c.talk-kept.result.end _ _ (λ found is. (is.0, (refl, (rest, is.1, none)), is.2))
    t.2.answer) (err_so c.talk-kept.result.end _ _ (λ m is. (is.0, is.1, none)) t.2.missed))

pub returns-in-Talk-2-clause-note : goal.returns-in-Talk-2-clause-note
returns-in-Talk-2-clause-note g c = err_so c.talk-kept.result.end _ _ (λ m is. none_of m is.0) c.talk-kept.ensures.session.2.missed

pub returns-in-Talk-2-clause-unkept : goal.returns-in-Talk-2-clause-unkept
returns-in-Talk-2-clause-unkept g c = rw (c.in-Sessions.is, c.in-Talk-2.is)
    (on_err c.talk-kept.result.end _ _ (λ m is. is.2) c.talk-kept.ensures.session.2.missed)

pub returns-in-Talk-2-clause-beside : goal.returns-in-Talk-2-clause-beside
returns-in-Talk-2-clause-beside g c =
    talk_beside _ c.args.request.now _ _ (g.E.Write.contents c.args.err.now) _ _ (rw (c.in-Sessions.is, c.in-Talk-2.is) tt) c.if-is_quiet.false
    c.talk-kept.ensures.beside (ap g.E.Write.contents c.new-beside.ensures.1) (search rules) c.report_failure-in-Talk-2.ensures

pub returns-in-Ok-clause-response : goal.returns-in-Ok-clause-response
returns-in-Ok-clause-response g c =
    let is = c.host-kept.ensures.lived in
    rw (c.in-Sessions.is, c.in-Host.is)
    (told_kept c.host-kept.result.end _ _ [] _ _ _ _ (Appends-nil _) (ok_so c.host-kept.result.end _ _ (λ found it. (it.0, (refl, (refl, it.1)), it.2))
    (rw c.as_slice-clients.ensures at is.answer)) (err_so c.host-kept.result.end _ _ (λ m it. (it.0, refl, it.1)) is.missed))

pub returns-in-Ok-clause-note : goal.returns-in-Ok-clause-note
returns-in-Ok-clause-note g c = err_so c.host-kept.result.end _ _ (λ m is. none_of m is.0) c.host-kept.ensures.lived.missed

pub returns-in-Ok-clause-unkept : goal.returns-in-Ok-clause-unkept
returns-in-Ok-clause-unkept g c =
    rw (c.in-Sessions.is, c.in-Host.is) (on_err c.host-kept.result.end _ _ (λ m is. is.2) (rw c.as_slice-clients.ensures at c.host-kept.ensures.lived.missed))

pub returns-in-Ok-clause-beside : goal.returns-in-Ok-clause-beside
returns-in-Ok-clause-beside g c = host_beside _ c.args.request.now _ _ (rw (c.in-Sessions.is, c.in-Host.is) tt)
    (told_lines_more c.args.request.now.is_quiet _ _ _ c.report_failures.ensures c.report_failure.ensures)

pub returns-in-Err-clause-response : goal.returns-in-Err-clause-response
returns-in-Err-clause-response g c =
    rw (c.without_sessions-in-Err.ensures.end, c.from.ensures) ([], Appends-nil _, tt, (refl, refl, none_served _ c.requires.unserved))

pub returns-in-Texts-clause-admitted : goal.returns-in-Texts-clause-admitted
returns-in-Texts-clause-admitted g c = none_admitted _ c.args.peers.now.endings.items _ c.requires.unserved c.requires.no_passes

pub returns-in-Ports-clause-admitted : goal.returns-in-Ports-clause-admitted
returns-in-Ports-clause-admitted g c = none_admitted _ c.args.peers.now.endings.items _ c.requires.unserved c.requires.no_passes

pub returns-in-Serve-clause-admitted : goal.returns-in-Serve-clause-admitted
returns-in-Serve-clause-admitted g c = none_admitted _ c.args.peers.now.endings.items _ c.requires.unserved c.requires.no_passes

pub returns-in-Talk-clause-admitted : goal.returns-in-Talk-clause-admitted
returns-in-Talk-clause-admitted g c = none_admitted _ c.args.peers.now.endings.items _ c.requires.unserved c.requires.no_passes

pub returns-in-Talk-2-clause-admitted : goal.returns-in-Talk-2-clause-admitted
returns-in-Talk-2-clause-admitted g c = none_admitted _ c.args.peers.now.endings.items _ c.requires.unserved c.requires.no_passes

pub returns-in-Err-clause-admitted : goal.returns-in-Err-clause-admitted
returns-in-Err-clause-admitted g c = none_admitted _ c.args.peers.now.endings.items _ c.requires.unserved c.requires.no_passes

pub returns-in-Ok-clause-admitted : goal.returns-in-Ok-clause-admitted
returns-in-Ok-clause-admitted g c = rw (c.in-Sessions.is, c.in-Host.is) (rw c.as_slice-clients.ensures at c.host-kept.ensures.admitted)
