use Rattle.std.proofs.Common.{refl, slice_index, subst}
use Rattle.std.proofs.lemmas.Result.{on_ok_weaker}
use Rattle.c004_commands.specs.Answers.{IsAnswer}
use Rattle.c004_commands.specs.declared.answer.OutputState.{OutputState}
use Rattle.switch_driver.proofs.switch_start.hear_after.Goals as goal

pub returns-in-Connected-clause-heard : goal.returns-in-Connected-clause-heard
returns-in-Connected-clause-heard g c =
    let is = subst (λ (a : OutputState). IsAnswer a (slice_index c.args.first.now 31)) c.in-Connected.is ((c.in-Ok.ensures.answer c.in-Ok.state).0 refl) in
    let own = rw c.get.ensures.number at (c.are_own.ensures c.if-are_own.true) in
    on_ok_weaker c.hear_from.result (λ heard. (c.in-Connected.input, is.1, own, rw c.get-in-Connected.ensures.number at heard)) c.hear_from.ensures.heard
