-- The first fault of a text that denotes no list of moves.
use Rattle.std.specs.Prelude.{List, ℕ}
use Rattle.batch.specs.declared.fault.BatchFault.{BatchFault}
use Rattle.batch.specs.ShapeView.{widest}
use Rattle.batch.specs.ListFaults as lists
use Rattle.move_directions.specs.Text.{moves_form}

-- the first fault of the text: of its first line, of a move's line after good ones, or after the
-- last
abbrev pub IsFirstFault : List ℕ → BatchFault → Type 0
IsFirstFault = lists.IsFirstFault moves_form widest

-- the line of a move stands in the text, as it should
abbrev pub NeedsMemory : List ℕ → Type 0
NeedsMemory = lists.NeedsMemory moves_form widest
