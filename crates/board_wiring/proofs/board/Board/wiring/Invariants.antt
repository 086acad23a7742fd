use Rattle.std.proofs.Common.{take}
use Rattle.crossbar.specs.Wired.{links_of}
use Rattle.board_wiring.specs.Boards.{modules_of}
use Rattle.board_wiring.proofs.Placing.{Placed}
use Rattle.board_wiring.proofs.board.Board.wiring.Given as goal

abbrev pub invariant-loop-on : goal.invariant-loop-on
invariant-loop-on l = Placed (links_of l.wiring) (take l.on-index (modules_of l.self))
