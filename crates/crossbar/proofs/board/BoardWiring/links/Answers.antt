use Rattle.std.proofs.Common.{◌<◌, arith, subst}
use Rattle.std.proofs.lemmas.List.{get_or-take, length-take}
use Rattle.c004_commands.specs.declared.port.TheConstants.{PORTS}
use Rattle.crossbar.specs.Wired.{links_of, unwired}
use Rattle.crossbar.specs.declared.module_links.ModuleLinks.{ModuleLinks}
use Rattle.crossbar.proofs.Boards.{had}
use Rattle.crossbar.proofs.board.BoardWiring.links.Goals as goal

pub returns-clause-had : goal.returns-clause-had
returns-clause-had c =
    let board = c.args.self.now in
    let within : c.args.number < board.modules = omega (arith, c.requires, length-take board.modules board.links) in
    subst (λ (on : ModuleLinks). (on.link0 < PORTS) × (on.link3 < PORTS)) (get_or-take board.modules board.links c.args.number unwired within)
    (had (links_of board) c.args.number unwired board.own c.requires)
