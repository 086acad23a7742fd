use Rattle.std.proofs.Common.{◌<◌, length, refl, arith}
use Rattle.std.proofs.lemmas.Grind.{common_steps}
use Rattle.std.proofs.lemmas.Result.{err_from_is_err_and}
use Rattle.link_graph.proofs.LinkLines.{unread, kept}
use Rattle.link_graph.proofs.reading.numbers_of.Goals as goal

pub returns-in_default-clause-err : goal.returns-in_default-clause-err
returns-in_default-clause-err c =
    let some : 0 < length c.loop-rest.rest.now = grind (arith, common_steps) in
    (refl, unread _ _ _ c.loop-rest.invariant some c.in_default.ensures.none)

pub returns-in_err-push-clause-err : goal.returns-in_err-push-clause-err
returns-in_err-push-clause-err c =
    let p = err_from_is_err_and c.from_residual.result c.from_residual.ensures.1 in
    rw (p.1, p.2) (kept _ _ _ _ _ c.loop-rest.invariant c.in-Some.ensures.some)
