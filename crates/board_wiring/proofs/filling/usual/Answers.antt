use Rattle.crossbar.specs.Wired.{links_of}
use Rattle.board_wiring.specs.Filling.{usual_links, usual_on}
use Rattle.board_wiring.proofs.Placing.{next_wired, usual_at, usual_few, usual_wired}
use Rattle.std.proofs.Common.{arith, ◌∙◌}
use Rattle.board_wiring.proofs.filling.usual.Goals as goal

pub unreachable-requires : goal.unreachable-requires
unreachable-requires c =
    let n = c.loop-number.number in
    let next = next_wired usual_links (links_of c.loop-number.wiring) n (usual_on n) usual_wired usual_few (omega (arith, c.loop-number-test.true))
    c.loop-number.invariant (usual_at n (omega (arith, c.loop-number-test.true))) in
    c.in_default.ensures.none next.1

pub loop-number-preserved : goal.loop-number-preserved
loop-number-preserved c =
    let n = c.loop-number.number in
    let next = next_wired usual_links (links_of c.loop-number.wiring) n (usual_on n) usual_wired usual_few (omega (arith, c.loop-number-test.true))
    c.loop-number.invariant (usual_at n (omega (arith, c.loop-number-test.true))) in
    c.in-Some.ensures.some ∙ next.0
