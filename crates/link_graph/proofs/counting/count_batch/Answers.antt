use Rattle.std.proofs.Common.{List, subst, sym, arith}
use Rattle.std.proofs.lemmas.List.{length-take, take_more}
use Rattle.batch.specs.declared.transfer.Transfer.{Transfer}
use Rattle.link_graph.specs.Tables.{AreCounts}
use Rattle.link_graph.proofs.Tables.{no_counts, room_left}
use Rattle.link_graph.proofs.counting.count_batch.Goals as goal

pub loop-transfer-init : goal.loop-transfer-init
loop-transfer-init c = (no_counts, omega arith)

pub count_transfer-requires-clause-room : goal.count_transfer-requires-clause-room
count_transfer-requires-clause-room c =
    let items = c.as_slice-transfer-items in
    room_left _ _ _ c.loop-transfer.invariant.0
    (omega (arith, length-take c.loop-transfer.transfer-index items.result.now, rw (← items.ensures.value) at items.ensures.batch.few))

pub loop-transfer-preserved : goal.loop-transfer-preserved
loop-transfer-preserved c = (
  subst (λ (xs : List Transfer). AreCounts c.count_transfer.new.counts xs) (sym (take_more _ _ _ c.loop-transfer-test.true))
      (c.count_transfer.ensures _ c.loop-transfer.invariant.0),
  omega (arith, c.loop-transfer.invariant.1, c.tick.ensures),
)
