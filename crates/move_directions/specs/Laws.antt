-- Laws of directions and of the text of moves. Proofs use them; no contract of another call cites
-- them.
use Rattle.std.specs.Prelude.{◌≡◌, ℕ, List}
use Rattle.batch.specs.declared.fault.BatchFault.{BatchFault}
use Rattle.batch.specs.declared.transfer.Transfer.{Transfer}
use Rattle.move_directions.specs.declared.moves.Move.{Move}
use Rattle.move_directions.specs.Moves.{Directs, half_ends}
use Rattle.move_directions.specs.Directions.{HalvesEnds, NeedsFewest, NoneIsShorter}
use Rattle.move_directions.specs.Text.{Denotes}
use Rattle.move_directions.specs.Faults.{IsFirstFault}

-- no schedule of any directions has fewer settings than half of the ends at a module, rounded up
abbrev pub ModuleBounds : Type 0
ModuleBounds = (moves : List Move) (m : ℕ) → NoneIsShorter moves (half_ends moves m)

-- where each link has at most half of the ends at its module, no directions and no schedule need
-- fewer settings
abbrev pub HalvedIsFewest : Type 0
HalvedIsFewest =
    (moves : List Move) (batch : List Transfer) → Directs moves batch → HalvesEnds moves batch
    → NeedsFewest moves batch

-- a text denotes at most one list of moves
abbrev pub OneMoveList : Type 0
OneMoveList = (text : List ℕ) (a b : List Move) → Denotes text a → Denotes text b → a ≡ b

-- a text that denotes a list of moves has no first fault
abbrev pub NeverBoth : Type 0
NeverBoth =
    (text : List ℕ) (a : List Move) (fault : BatchFault) → Denotes text a
    → IsFirstFault text fault → ⊥

-- a text has at most one first fault
abbrev pub OneFault : Type 0
OneFault =
    (text : List ℕ) (one other : BatchFault) → IsFirstFault text one → IsFirstFault text other
    → one ≡ other
