-- What a batch's text lacks of a board.
use Rattle.std.proofs.Common.{◌≡◌, ℕ, List, Option, Some, None, IfNone}
use Rattle.batch.proofs.OneReading.{one_batch, apart}
use Rattle.batch.proofs.Shapes.{widest_shape}
use Rattle.batch.specs.ShapeView.{widest}
use Rattle.batch.specs.Faults.{IsFirstFault}
use Rattle.batch.specs.Text.{Denotes}
use Rattle.batch.specs.declared.fault.BatchFault.{BatchFault}
use Rattle.batch.specs.declared.transfer.Transfer.{Transfer}
use Rattle.board_wiring.specs.Boards.{modules_of}
use Rattle.board_wiring.specs.Missing.{HasWays, MissesNothing}
use Rattle.board_wiring.specs.declared.board.Board.{Board}

-- what is so of the batch that was read is so of each that the text denotes
pub of_read : (board : Option Board) (its : Board) (text : List ℕ) (read : List Transfer) → board ≡ Some its → Denotes widest text read
    → HasWays (modules_of its) read → MissesNothing board text
of_read None its text read e is has batch denotes = tt
of_read (Some board) its text read e is has batch denotes =
    let same : batch ≡ read = one_batch widest widest_shape text batch read denotes is in
    let one : board ≡ its = cc in
    rw (same, one) has

-- and a text with a fault denotes none
pub of_fault : (board : Option Board) (text : List ℕ) (fault : BatchFault) → IsFirstFault widest text fault → MissesNothing board text
of_fault board text fault wrong batch denotes = absurd (apart widest widest_shape text batch fault denotes wrong)

-- where there is none, what follows from that
pub none_is : {X : Type 0} (found : Option X) (P Q : Type 0) → (P → Q) → IfNone found P → IfNone found Q
none_is None P Q f is = f is
none_is (Some x) P Q f is = tt
