use Rattle.std.proofs.Common.{◌≡◌, Some, None, slice_get, get_or, sym, ◌∙◌, arith, take}
use Rattle.std.proofs.lemmas.List.{append-nil, length-take}
use Rattle.link_graph.proofs.Tables.{no_counts, modules_of, room_left}
use Rattle.link_graph.proofs.Sharing.{some_more, none_more, members_few}
use Rattle.link_graph.proofs.checking.count_setting.Goals as goal
use Rattle.link_graph.proofs.checking.count_setting.Goals.{in-Some, in_default}

pub loop-t-init : goal.loop-t-init
loop-t-init c = no_counts

pub count_transfer-requires-clause-modules : goal.count_transfer-requires-clause-modules
count_transfer-requires-clause-modules c = modules_of c.args.batch.now _ c.in-Some.transfer (sym c.transfer.ensures ∙ c.in-Some.is) c.requires

pub count_transfer-requires-clause-room : goal.count_transfer-requires-clause-room
count_transfer-requires-clause-room c =
    room_left _ _ _ c.loop-t.invariant
    (omega (arith, members_few c.args.batch.now (take c.loop-t.t-index c.args.setting.now), length-take c.loop-t.t-index c.args.setting.now))

pub loop-t-preserved : goal.loop-t-preserved
loop-t-preserved c =
    elim c.match-transfer.branch [
      | in-Some w ↦
          let here : slice_get c.args.batch.now (get_or c.args.setting.now c.loop-t.t-index 0) ≡ Some w.in-Some.transfer = sym c.transfer.ensures
          ∙ w.in-Some.is in
          rw (w.counts-is, some_more c.args.batch.now c.args.setting.now c.loop-t.t-index 0 w.in-Some.transfer c.loop-t-test.true here)
          (w.count_transfer.ensures _ c.loop-t.invariant)
      | in_default w ↦
          let none : slice_get c.args.batch.now (get_or c.args.setting.now c.loop-t.t-index 0) ≡ None = sym c.transfer.ensures ∙ w.in_default.is in
          rw (w.counts-is, none_more c.args.batch.now c.args.setting.now c.loop-t.t-index 0 c.loop-t-test.true none, append-nil) c.loop-t.invariant
    ]
