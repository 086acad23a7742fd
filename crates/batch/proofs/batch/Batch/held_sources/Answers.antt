use Rattle.std.proofs.Common.{arith, subst, rules}
use Rattle.std.proofs.lemmas.Result.{err_from_is_err_and}
use Rattle.batch.specs.ShapeView.{widest}
use Rattle.batch.specs.Held.{AreHeldSources, HasHeldSource}
use Rattle.batch.specs.Places.{HasPlace}
use Rattle.batch.proofs.HeldSources.{held_none, held_one, held_skip, held_more, held_all}
use Rattle.batch.proofs.batch.Batch.held_sources.Goals.{then-unheld-index+in_ok-push, else-unheld-index}
use Rattle.batch.proofs.batch.Batch.held_sources.Goals as goal

pub loop-transfer-init : goal.loop-transfer-init
loop-transfer-init c = record {
  size = search rules;
  below = held_none c.as_slice-transfers.result.now c.flags_of-unheld.result c.new-held.result.items
      (search rules) c.flags_of-unheld.ensures;
}

pub loop-transfer-preserved : goal.loop-transfer-preserved
loop-transfer-preserved c =
    let ts = c.as_slice-transfers.result.now in
    let now = c.loop-transfer in
    let p = c.source-source.result in
    let index = c.widest_index-index in
    let here : HasPlace widest p = search rules in
    elim c.if-unheld-index.branch [
      | then-unheld-index+in_ok-push w ↦ record {
        size = search rules;
        below = held_more ts now.transfer-index now.unheld c.if-unheld-index.unheld now.held.items c.if-unheld-index.held.items index.result p (search rules)
            index.ensures.value c.source-source.ensures here c.loop-transfer-test.true (omega arith) w.if-unheld-index.true (search rules) now.invariant.below;
      }
      | else-unheld-index w ↦ record {
        size = search rules;
        below = held_skip ts now.transfer-index c.if-unheld-index.unheld c.if-unheld-index.held.items index.result p index.ensures.value c.source-source.ensures
            here (search rules) (search rules);
      }
    ]

pub returns-in_err-push-clause-memory : goal.returns-in_err-push-clause-memory
returns-in_err-push-clause-memory c =
    let ts = c.as_slice-transfers.result.now in
    let now = c.loop-transfer in
    let p = c.source-source.result in
    let index = c.widest_index-index in
    let here : HasPlace widest p = search rules in
    let one : HasHeldSource ts = held_one ts now.transfer-index now.unheld now.held.items index.result p index.ensures.value c.source-source.ensures here
    c.loop-transfer-test.true c.if-unheld-index.true now.invariant.below in
    let fault = err_from_is_err_and c.from_residual.result c.from_residual.ensures.1 in
    rw fault.1 (subst HasHeldSource c.as_slice-transfers.ensures.value one)

pub returns-clause-held : goal.returns-clause-held
returns-clause-held c =
    let all : AreHeldSources c.as_slice-transfers.result.now c.loop-transfer.held.items = held_all c.as_slice-transfers.result.now
    c.loop-transfer.transfer-index c.loop-transfer.unheld c.loop-transfer.held.items (omega arith) c.loop-transfer.invariant.below in
    search rules
