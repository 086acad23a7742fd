use Rattle.std.proofs.Common.{◌≡◌, ◌∙◌, sym, length, ap, rules}
use Rattle.std.proofs.lemmas.List.{length-map}
use Rattle.std.proofs.lemmas.Result.{err_from_is_err_and, on_ok_weaker, IfErr-weaker}
use Rattle.link_graph.specs.Schedules.{IsScheduleOf}
use Rattle.link_graph.proofs.Koenig.{certified}
use Rattle.link_graph.proofs.OneFault.{only_memory}
use Rattle.link_graph.proofs.checker.check_schedule.Goals as goal

pub returns-in-Some-clause-accepted : goal.returns-in-Some-clause-accepted
returns-in-Some-clause-accepted c = λ r. only_memory _ _ _ _ (λ real. rw (c.len-count.ensures.value, c.lists-lists.ensures) at c.in-Some.ensures.some)
    r.schedule r.certificate

pub returns-in_err-check_settings-clause-fault : goal.returns-in_err-check_settings-clause-fault
returns-in_err-check_settings-clause-fault c =
    let p = err_from_is_err_and c.from_residual-in_err-check_settings.result c.from_residual-in_err-check_settings.ensures.1 in
    let first = rw c.lists-lists.ensures at (c.in_err-check_settings.ensures.err.1 c.args.certificate.now) in
    rw (p.1, p.2) (λ real. first)

pub returns-in_err-check_settings-clause-accepted : goal.returns-in_err-check_settings-clause-accepted
returns-in_err-check_settings-clause-accepted c =
    let p = err_from_is_err_and c.from_residual-in_err-check_settings.result c.from_residual-in_err-check_settings.ensures.1 in
    let first = rw c.lists-lists.ensures at (c.in_err-check_settings.ensures.err.1 c.args.certificate.now) in
    rw (p.1, p.2) (λ r. only_memory _ _ _ _ (λ real. first) r.schedule r.certificate)

pub returns-clause-shortest : goal.returns-clause-shortest
returns-clause-shortest c =
    let s : IsScheduleOf c.args.batch.now c.args.schedule.now = rw c.lists-lists.ensures at c.in_ok-check_settings.ensures.ok in
    let many : length c.args.schedule.now ≡ length c.lists-lists.result.now = ap length (sym c.lists-lists.ensures) ∙ length-map c.lists-lists.result.now
    (λ v. v.items) in
    on_ok_weaker c.check_certificate.result (λ ok. certified _ _ _ s (ok c.args.schedule.now s many)) c.check_certificate.ensures.ok

pub returns-clause-accepted : goal.returns-clause-accepted
returns-clause-accepted c = λ r.
    let many : length c.args.schedule.now ≡ length c.lists-lists.result.now = ap length (sym c.lists-lists.ensures) ∙ length-map c.lists-lists.result.now
    (λ v. v.items) in
    IfErr-weaker c.check_certificate.result _ _ (λ fault err. only_memory _ _ _ fault (λ real. err.1 c.args.schedule.now r.schedule many) r.schedule
    r.certificate) c.check_certificate.ensures.err

pub returns-in-Some-clause-schedule : goal.returns-in-Some-clause-schedule
returns-in-Some-clause-schedule c = search rules

pub returns-in-Some-clause-certificate : goal.returns-in-Some-clause-certificate
returns-in-Some-clause-certificate c = search rules

pub returns-in-Some-clause-shortest : goal.returns-in-Some-clause-shortest
returns-in-Some-clause-shortest c = search rules
