use Rattle.std.proofs.Common.{◌≡◌, ◌≢◌, ◌<◌, ◌∙◌, ℕ, List, [], ◌∷◌, length, ap, sym, arith, rules}
use Rattle.std.proofs.lemmas.Grind.{common_steps}
use Rattle.std.proofs.lemmas.Result.{err_from_is_err_and}
use Rattle.link_graph.specs.Certificates.{Naming}
use Rattle.link_graph.specs.ScheduleText.{naming_lines, text_of}
use Rattle.link_graph.proofs.CertificateLines.{none_line, no_certificate_line, bad_certificate_line, after_no_link, named_fault, one_text}
use Rattle.link_graph.proofs.reading.certificate.Goals as goal

pub returns-in_default-clause-err : goal.returns-in_default-clause-err
returns-in_default-clause-err c =
    let some : 0 < length c.args.text.now = grind (arith, common_steps) in
    no_certificate_line c.args.above c.args.text.now c.in_default.ensures.none some

pub returns-then-not-is_empty-clause-err : goal.returns-then-not-is_empty-clause-err
returns-then-not-is_empty-clause-err c =
    let none : c.in-Some.line.now ≡ none_line = search rules in
    let more : 0 < length c.in-Some.rest.now = grind (arith, common_steps) in
    after_no_link c.args.above c.args.text.now c.in-Some.line.now c.in-Some.rest.now c.in-Some.ensures.some none more

pub returns-then-eq-clause-text : goal.returns-then-eq-clause-text
returns-then-eq-clause-text c =
    let none : c.in-Some.line.now ≡ none_line = search rules in
    let end : length c.in-Some.rest.now ≡ 0 = grind (arith, common_steps) in
    one_text c.args.text.now c.in-Some.line.now c.in-Some.rest.now c.in-Some.ensures.some.1 end ∙ ap (λ (l : List ℕ). text_of (l ∷ [])) none
    ∙ sym (ap (λ (named : Naming). text_of (naming_lines named.link named.transfers)) c.none.ensures)

pub returns-in_default-busiest_link-clause-err : goal.returns-in_default-busiest_link-clause-err
returns-in_default-busiest_link-clause-err c =
    let other : c.in-Some.line.now ≢ none_line = search rules in
    bad_certificate_line c.args.above c.args.text.now c.in-Some.line.now c.in-Some.rest.now c.in-Some.ensures.some other c.in_default-busiest_link.ensures.none

pub returns-in_err-certificate-clause-err : goal.returns-in_err-certificate-clause-err
returns-in_err-certificate-clause-err c =
    let p = err_from_is_err_and c.from_residual.result c.from_residual.ensures.1 in
    rw (p.1, p.2) (named_fault c.args.above c.args.text.now c.in-Some.line.now c.in-Some.rest.now c.in-Some-busiest_link.link c.in_err-certificate.field-0.0
    c.in-Some.ensures.some c.in-Some-busiest_link.ensures.some c.in_err-certificate.ensures.err)
