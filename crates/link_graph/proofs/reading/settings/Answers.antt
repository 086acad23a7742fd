use Rattle.std.proofs.Common.{◌≡◌, ◌∙◌, ◌+◌, ℕ, List, length, refl}
use Rattle.std.specs.Global.{Vec}
use Rattle.std.proofs.lemmas.List.{length-map}
use Rattle.std.proofs.lemmas.Result.{err_from_is_err_and}
use Rattle.link_graph.specs.Schedules.{lists_of}
use Rattle.link_graph.proofs.CountedLines.{no_setting_line, bad_setting_line, keeps_setting}
use Rattle.link_graph.proofs.reading.settings.Goals as goal

counted : (lists : List (Vec ℕ)) (k : ℕ) → length lists ≡ k → length (lists_of lists) ≡ k
counted lists k e = length-map lists (λ v. v.items) ∙ e

pub returns-in_default-clause-err : goal.returns-in_default-clause-err
returns-in_default-clause-err c =
    no_setting_line c.args.count c.args.text.now (lists_of c.loop-k.lists.items) c.loop-k.rest.now c.loop-k.k (c.loop-k.k + 2) c.requires c.loop-k-test.true
    c.loop-k.invariant.read (counted _ _ c.loop-k.invariant.counted) refl c.in_default.ensures.none

pub returns-in_err-numbers_after-clause-err : goal.returns-in_err-numbers_after-clause-err
returns-in_err-numbers_after-clause-err c =
    let p = err_from_is_err_and c.from_residual.result c.from_residual.ensures.1 in
    rw (p.1, p.2) (bad_setting_line c.args.count c.args.text.now (lists_of c.loop-k.lists.items) c.loop-k.rest.now c.in-Some.line.now c.in-Some.after.now
    c.loop-k.k c.in_err-numbers_after.field-0.0 c.requires c.loop-k-test.true c.loop-k.invariant.read (counted _ _ c.loop-k.invariant.counted)
    c.in-Some.ensures.some c.in_err-numbers_after.ensures.err)

pub returns-in_err-push-clause-err : goal.returns-in_err-push-clause-err
returns-in_err-push-clause-err c =
    let p = err_from_is_err_and c.from_residual-in_err-push.result c.from_residual-in_err-push.ensures.1 in
    rw (p.1, p.2) (keeps_setting c.args.count c.args.text.now (lists_of c.loop-k.lists.items) c.loop-k.rest.now c.in-Some.line.now c.in-Some.after.now
    c.in_ok-numbers_after.field-0.items c.loop-k.k c.requires c.loop-k-test.true c.loop-k.invariant.read (counted _ _ c.loop-k.invariant.counted)
    c.in-Some.ensures.some.1 c.in_ok-numbers_after.ensures.ok)
