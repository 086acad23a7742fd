use Rattle.std.proofs.Common.{arith, ◌∙◌}
use Rattle.crossbar.specs.Wired.{links_of}
use Rattle.board_wiring.proofs.Placing.{next_exchanged}
use Rattle.board_wiring.proofs.filling.exchanged.Goals as goal

pub unreachable-requires : goal.unreachable-requires
unreachable-requires c =
    let ws = links_of c.args.wiring.now in
    let next = next_exchanged c.args.one c.args.other ws (links_of c.loop-number.made) c.loop-number.number c.links-on.result _ c.requires.had.0
    c.requires.had.1 c.args.wiring.now.own (omega (arith, c.loop-number-test.true, c.modules-number-end.ensures.number)) c.loop-number.invariant
    c.links-on.ensures.links c.exchange.ensures c.exchange-in-loop-number.ensures in
    c.in_default.ensures.none next.1

pub loop-number-preserved : goal.loop-number-preserved
loop-number-preserved c =
    let ws = links_of c.args.wiring.now in
    let next = next_exchanged c.args.one c.args.other ws (links_of c.loop-number.made) c.loop-number.number c.links-on.result _ c.requires.had.0
    c.requires.had.1 c.args.wiring.now.own (omega (arith, c.loop-number-test.true, c.modules-number-end.ensures.number)) c.loop-number.invariant
    c.links-on.ensures.links c.exchange.ensures c.exchange-in-loop-number.ensures in
    c.in-Some.ensures.some ∙ next.0
