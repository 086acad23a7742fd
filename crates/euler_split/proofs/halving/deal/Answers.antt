use Rattle.std.proofs.Common.{◌≡◌, get_or, sym, ◌∙◌, arith, get_or-set_other}
use Rattle.std.proofs.lemmas.List.{take_more_set}
use Rattle.euler_split.proofs.Dealt.{dealt_left, dealt_right}
use Rattle.euler_split.proofs.halving.deal.Goals as goal
use Rattle.euler_split.proofs.halving.deal.Goals.{then-take_turn, else-take_turn}

pub loop-place-preserved : goal.loop-place-preserved
loop-place-preserved c =
    let at = c.loop-place in
    let so_far = at.invariant in
    let same : get_or at.members at.place 0 ≡ get_or c.args.members.now at.place 0 = so_far.rest at.place (omega arith) in
    let told = rw same at c.take_turn.ensures in
    let t_in = c.requires.known at.place 0 c.loop-place-test.true in
    elim c.if-take_turn.branch [
      | then-take_turn w ↦ rw (w.members-is, w.others-is, w.left-is, w.right-is) (record {
        cost = omega (arith, so_far.cost, c.tick.ensures);
        counted = omega (arith, so_far.counted);
        rest = λ k past. get_or-set_other at.members at.left k _ 0 (λ on. omega (arith, so_far.counted)) ∙ so_far.rest k (omega arith);
        dealt = rw (take_more_set at.members at.left _ (omega (arith, so_far.counted)), same)
            (dealt_left c.args.graph.now c.args.members.now at.place c.args.turns.now at.turns c.take_turn.new.turns _ _ c.requires.batch c.loop-place-test.true
            t_in so_far.dealt told.next (sym told.turn ∙ w.if-take_turn.true));
      })
      | else-take_turn w ↦ rw (w.members-is, w.others-is, w.left-is, w.right-is) (record {
        cost = omega (arith, so_far.cost, c.tick.ensures);
        counted = omega (arith, so_far.counted);
        rest = λ k past. so_far.rest k (omega arith);
        dealt = rw (take_more_set at.others at.right _ (omega (arith, so_far.counted)), same)
            (dealt_right c.args.graph.now c.args.members.now at.place c.args.turns.now at.turns c.take_turn.new.turns _ _ c.requires.batch
            c.loop-place-test.true t_in so_far.dealt told.next (sym told.turn ∙ w.if-take_turn.false));
      })
    ]
