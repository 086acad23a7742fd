use Rattle.board_wiring.specs.Boards.{modules_of}
use Rattle.board_wiring.specs.Faults.{AreModules}
use Rattle.board_wiring.proofs.reading.modules.Given as goal

abbrev pub invariant-loop-number : goal.invariant-loop-number
invariant-loop-number l = AreModules l.lines l.number (modules_of l.board) l.rest
