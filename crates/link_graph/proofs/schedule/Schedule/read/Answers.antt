use Rattle.std.proofs.lemmas.Grind.{common_steps}
use Rattle.std.proofs.Common.{◌≡◌, ◌∙◌, ℕ, List, length, arith}
use Rattle.std.specs.Global.{Vec}
use Rattle.std.proofs.lemmas.List.{length-map}
use Rattle.std.proofs.lemmas.Result.{err_from_is_err_and}
use Rattle.link_graph.specs.Schedules.{lists_of}
use Rattle.link_graph.proofs.SaidLines.{no_first_line, bad_first_line, counted_fault, certified_fault}
use Rattle.link_graph.proofs.schedule.Schedule.read.Goals as goal

pub returns-in_default-clause-fault : goal.returns-in_default-clause-fault
returns-in_default-clause-fault c = no_first_line c.args.text.now c.in_default.ensures.none

pub returns-in_default-settings_count-clause-fault : goal.returns-in_default-settings_count-clause-fault
returns-in_default-settings_count-clause-fault c = bad_first_line c.args.text.now c.in-Some.line.now c.in-Some.rest.now c.in-Some.ensures.some
    c.in_default-settings_count.ensures.none

pub returns-in_err-lists-clause-fault : goal.returns-in_err-lists-clause-fault
returns-in_err-lists-clause-fault c =
    let p = err_from_is_err_and c.from_residual.result c.from_residual.ensures.1 in
    rw (p.1, p.2) (counted_fault c.args.text.now c.in-Some.line.now c.in-Some.rest.now c.in-Some-settings_count.count c.in_err-lists.field-0.0
    c.in-Some.ensures.some c.in-Some-settings_count.ensures.some c.in_err-lists.ensures.err)

long : (lists : List (Vec ℕ)) (count : ℕ) → length lists ≡ count → length (lists_of lists) ≡ count
long lists count e = length-map lists (λ v. v.items) ∙ e

pub returns-in_err-certificate-clause-fault : goal.returns-in_err-certificate-clause-fault
returns-in_err-certificate-clause-fault c =
    let p = err_from_is_err_and c.from_residual-in_err-certificate.result c.from_residual-in_err-certificate.ensures.1 in
    rw (p.1, p.2) (certified_fault c.args.text.now c.in-Some.line.now c.in-Some.rest.now c.in-Some-settings_count.count (lists_of c.in_ok-lists.lists.items)
    c.in_ok-lists.rest.now c.in_err-certificate.field-0.0 c.in-Some.ensures.some c.in-Some-settings_count.ensures.some
    (long _ _ c.in_ok-lists.ensures.counted) c.in_ok-lists.ensures.numbers c.in_ok-lists.ensures.text c.in_err-certificate.ensures.err)

pub returns-clause-says : goal.returns-clause-says
returns-clause-says c = grind (arith, common_steps)
