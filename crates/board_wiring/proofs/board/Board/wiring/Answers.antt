use Rattle.std.proofs.Common.{◌≡◌, ◌∙◌, None, arith, ap, get_or, length, take}
use Rattle.std.proofs.lemmas.List.{take_all}
use Rattle.crossbar.specs.Wired.{links_of}
use Rattle.crossbar.specs.declared.module_links.ModuleLinks.{ModuleLinks}
use Rattle.board_wiring.specs.Boards.{modules_of}
use Rattle.board_wiring.specs.declared.wired_module.WiredModule.{WiredModule}
use Rattle.board_wiring.proofs.Modules.{has_ports}
use Rattle.board_wiring.proofs.Placing.{first_placed, moved_length, next_placed}
use Rattle.board_wiring.proofs.board.Board.wiring.Goals as goal

-- what stands for a module after the last
nothing : WiredModule
nothing = record { number = 0; link0 = None; link3 = None }

pub moved-wiring-requires-clause-link : goal.moved-wiring-requires-clause-link
moved-wiring-requires-clause-link c = (has_ports (modules_of c.args.self.now) c.modules-on-items.result.now c.loop-on.on-index _ c.modules-on-items.ensures
    c.args.self.now.own c.loop-on-test.true).1

pub links-was-requires-in-loop-on : goal.links-was-requires-in-loop-on
unfolding nothing
links-was-requires-in-loop-on c =
    let ports = has_ports (modules_of c.args.self.now) c.modules-on-items.result.now c.loop-on.on-index nothing c.modules-on-items.ensures c.args.self.now.own
    c.loop-on-test.true in
    let len = moved_length (links_of c.loop-on.wiring) (links_of c.moved-wiring.result) c.links-was.result.link0
    (get_or c.modules-on-items.result.now c.loop-on.on-index nothing).link0
    (record { some = c.moved-wiring.ensures.some; none = c.moved-wiring.ensures.none }) in
    omega (arith, ports.0, len, c.loop-on.invariant.all)

pub moved-wiring-requires-in-loop-on-clause-link : goal.moved-wiring-requires-in-loop-on-clause-link
moved-wiring-requires-in-loop-on-clause-link c =
    (has_ports (modules_of c.args.self.now) c.modules-on-items.result.now c.loop-on.on-index _ c.modules-on-items.ensures c.args.self.now.own
    c.loop-on-test.true).2

pub loop-on-preserved : goal.loop-on-preserved
loop-on-preserved c =
    next_placed (links_of c.loop-on.wiring) (links_of c.moved-wiring.result) (links_of c.moved-wiring-in-loop-on.result) (modules_of c.args.self.now)
    c.modules-on-items.result.now c.loop-on.on-index c.links-was.result.link0 c.links-was-in-loop-on.result.link3 _
    c.modules-on-items.ensures c.loop-on-test.true c.args.self.now.own c.loop-on.wiring.own c.moved-wiring.result.own c.loop-on.invariant
    (ap (λ (x : ModuleLinks). x.link0) c.links-was.ensures.links) (record { some = c.moved-wiring.ensures.some; none = c.moved-wiring.ensures.none })
    (ap (λ (x : ModuleLinks). x.link3) c.links-was-in-loop-on.ensures.links)
    (record { some = c.moved-wiring-in-loop-on.ensures.some; none = c.moved-wiring-in-loop-on.ensures.none })

pub returns : goal.returns
returns c =
    let all = modules_of c.args.self.now in
    let index = c.loop-on.on-index in
    let len : length c.modules-on-items.result.now ≡ length all = ap length c.modules-on-items.ensures in
    let whole : take index all ≡ all = take_all index all (omega (arith, len, c.loop-on-test.false)) in
    let first = first_placed (links_of c.loop-on.wiring) (links_of c.first_modules.result) all (take index all) c.width.result c.loop-on.invariant whole
    c.args.self.now.own c.width.ensures.width c.first_modules.ensures in
    record { all = first.0 ∙ c.width.ensures.width; kept = first.1 }
