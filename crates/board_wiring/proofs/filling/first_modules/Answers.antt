use Rattle.std.proofs.Common.{arith, ◌∙◌}
use Rattle.crossbar.specs.Wired.{links_of}
use Rattle.board_wiring.proofs.Placing.{next_first}
use Rattle.board_wiring.proofs.filling.first_modules.Goals as goal

pub unreachable-requires : goal.unreachable-requires
unreachable-requires c =
    let next = next_first (links_of c.args.wiring.now) (links_of c.loop-number.made) c.loop-number.number c.links-on.result c.args.wiring.now.own
    (omega (arith, c.loop-number-test.true, c.requires)) c.loop-number.invariant c.links-on.ensures.links in
    c.in_default.ensures.none next.1

pub loop-number-preserved : goal.loop-number-preserved
loop-number-preserved c =
    let next = next_first (links_of c.args.wiring.now) (links_of c.loop-number.made) c.loop-number.number c.links-on.result c.args.wiring.now.own
    (omega (arith, c.loop-number-test.true, c.requires)) c.loop-number.invariant c.links-on.ensures.links in
    c.in-Some.ensures.some ∙ next.0
