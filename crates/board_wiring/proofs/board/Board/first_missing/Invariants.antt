use Rattle.std.proofs.Common.{ℕ, ◌<◌, IsTrue}
use Rattle.batch.specs.Overlap.{transfer_at}
use Rattle.board_wiring.specs.Boards.{modules_of}
use Rattle.board_wiring.specs.Missing.{has_way}
use Rattle.board_wiring.proofs.board.Board.first_missing.Given as goal

abbrev pub invariant-loop-t : goal.invariant-loop-t
invariant-loop-t l = (k : ℕ) → k < l.t → IsTrue (has_way (modules_of l.self) (transfer_at l.batch k))
