use Rattle.std.proofs.Common.{arith}
use Rattle.std.proofs.lemmas.Bool.Decides.{nat_tests}
use Rattle.board_wiring.specs.Boards.{modules_of}
use Rattle.board_wiring.proofs.Modules.{wired_more}
use Rattle.board_wiring.proofs.board.Board.has_room_for.Goals.{then-on-width-via-then-on-width, then-on-width-via-else-on-width+then-on-ge-MAX_BOARD_MODULES, then-is_free, else-is_free}
use Rattle.board_wiring.proofs.board.Board.has_room_for.Goals as goal

pub returns-then-on-width : goal.returns-then-on-width
returns-then-on-width c =
    let board = c.args.self.now in
    let e = wired_more (modules_of board) c.args.on.now board.own in
    elim c.then-on-width.branch [
      | then-on-width-via-then-on-width w ↦ grind (arith, nat_tests, e)
      | then-on-width-via-else-on-width+then-on-ge-MAX_BOARD_MODULES w ↦ grind (arith, nat_tests, e)
    ]

pub returns-then-is_free-2 : goal.returns-then-is_free-2
returns-then-is_free-2 c =
    let board = c.args.self.now in
    let e = wired_more (modules_of board) c.args.on.now board.own in
    elim c.if-is_free.branch [
      | then-is_free w ↦ grind (arith, nat_tests, e)
      | else-is_free w ↦ grind (arith, nat_tests, e)
    ]

pub returns-else-is_free-2 : goal.returns-else-is_free-2
returns-else-is_free-2 c =
    let board = c.args.self.now in
    let e = wired_more (modules_of board) c.args.on.now board.own in
    elim c.if-is_free.branch [
      | then-is_free w ↦ grind (arith, nat_tests, e)
      | else-is_free w ↦ grind (arith, nat_tests, e)
    ]
