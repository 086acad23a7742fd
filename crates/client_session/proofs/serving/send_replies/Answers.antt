use Rattle.std.proofs.Common.{refl}
use Rattle.std.proofs.lemmas.Result.{err_from_is_err_and}
use Rattle.client_session.proofs.Listening.{tells_nothing}
use Rattle.client_session.proofs.serving.send_replies.Goals as goal

pub returns-in_err-sync-clause-err : goal.returns-in_err-sync-clause-err
returns-in_err-sync-clause-err g c =
    let p = err_from_is_err_and c.from_residual.result c.from_residual.ensures.1 in
    rw (p.1, p.2, c.in_err-sync.ensures.fault) (c.in_err-sync.ensures.err, refl, c.as_bytes-lines.ensures.room)

pub returns-in_err-sync-clause-loses : goal.returns-in_err-sync-clause-loses
returns-in_err-sync-clause-loses g c =
    let p = err_from_is_err_and c.from_residual.result c.from_residual.ensures.1 in
    rw (p.1, p.2) (λ is. c.in_err-sync.ensures.loses)

pub returns-in_err-send-clause-err : goal.returns-in_err-send-clause-err
returns-in_err-send-clause-err g c =
    let p = err_from_is_err_and c.from_residual-in_err-send.result c.from_residual-in_err-send.ensures.1 in
    let lines = c.as_bytes-lines.ensures.lines in
    let some = rw lines at c.in_err-send.ensures.some in
    let cut = rw lines at c.in_err-send.ensures.err in
    rw (p.1, p.2, c.in_err-send.ensures.fault) (c.in_ok-sync.ensures.ok, some, cut, c.as_bytes-lines.ensures.room)

pub returns-in_err-send-clause-loses : goal.returns-in_err-send-clause-loses
returns-in_err-send-clause-loses g c =
    let p = err_from_is_err_and c.from_residual-in_err-send.result c.from_residual-in_err-send.ensures.1 in
    rw (p.1, p.2, c.in_err-send.ensures.fault) (λ is. absurd (cc))

pub returns-clause-ok : goal.returns-clause-ok
returns-clause-ok g c = record { seat = c.in_ok-sync.ensures.ok; appended = rw c.as_bytes-lines.ensures.lines at c.in_ok-send.ensures.ok }

pub returns-in_err-sync-clause-beside : goal.returns-in_err-sync-clause-beside
returns-in_err-sync-clause-beside g c = tells_nothing _

pub returns-in_err-send-clause-beside : goal.returns-in_err-send-clause-beside
returns-in_err-send-clause-beside g c = tells_nothing _
