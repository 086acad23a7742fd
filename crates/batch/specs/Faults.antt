-- The first fault of a text that denotes no batch.
use Rattle.std.specs.Prelude.{List, ℕ}
use Rattle.batch.specs.declared.fault.BatchFault.{BatchFault}
use Rattle.batch.specs.declared.transfer.Transfer.{Transfer}
use Rattle.batch.specs.ShapeView.{ShapeView}
use Rattle.batch.specs.ListFaults as lists
use Rattle.batch.specs.Text.{batch_form}

-- a line can spell the transfer's numbers
abbrev pub IsSpellable : Transfer → Type 0
IsSpellable = lists.IsSpellable batch_form

-- the first fault of the text: of its first line, of a transfer's line after good ones, or after
-- the last
abbrev pub IsFirstFault : ShapeView → List ℕ → BatchFault → Type 0
IsFirstFault = lists.IsFirstFault batch_form

-- the line of a transfer stands in the text, as it should
abbrev pub NeedsMemory : ShapeView → List ℕ → Type 0
NeedsMemory = lists.NeedsMemory batch_form
