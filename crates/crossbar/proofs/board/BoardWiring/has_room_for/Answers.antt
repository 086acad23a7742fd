use Rattle.std.proofs.Common.{arith}
use Rattle.std.proofs.lemmas.Bool.Decides.{nat_tests}
use Rattle.std.proofs.lemmas.List.{length-take}
use Rattle.crossbar.specs.Wired.{links_of}
use Rattle.crossbar.proofs.Boards.{has_room}
use Rattle.crossbar.proofs.board.BoardWiring.has_room_for.Goals.{then-links, else-links}
use Rattle.crossbar.proofs.board.BoardWiring.has_room_for.Goals as goal

pub returns-then-not-is_taken : goal.returns-then-not-is_taken
returns-then-not-is_taken c =
    let board = c.args.self.now in
    let e = has_room (links_of board) c.args.links.now board.own (omega (arith, length-take board.modules board.links, board.few)) c.if-links-ge-PORTS.false
    c.if-links-ge-PORTS-2.false in
    elim c.if-links.branch [
      | then-links w ↦ grind (arith, nat_tests, e)
      | else-links w ↦ grind (arith, nat_tests, e)
    ]

pub returns-else-not-is_taken : goal.returns-else-not-is_taken
returns-else-not-is_taken c =
    let board = c.args.self.now in
    let e = has_room (links_of board) c.args.links.now board.own (omega (arith, length-take board.modules board.links, board.few)) c.if-links-ge-PORTS.false
    c.if-links-ge-PORTS-2.false in
    elim c.if-links.branch [
      | then-links w ↦ grind (arith, nat_tests, e)
      | else-links w ↦ grind (arith, nat_tests, e)
    ]
