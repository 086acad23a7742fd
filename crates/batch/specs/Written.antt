-- The blocks that transfers write, by a flag for each block of the widest shape.
use Rattle.std.specs.Prelude.{◌≡◌, Bool, false, List, slice_index_or}
use Rattle.batch.specs.declared.transfer.Place.{Place}
use Rattle.batch.specs.declared.transfer.Transfer.{Transfer}
use Rattle.batch.specs.ShapeView.{widest}
use Rattle.batch.specs.Places.{HasPlace, place_index}
use Rattle.batch.specs.Held.{is_written}

-- the flag of a block
abbrev pub flag_of : List Bool → Place → Bool
flag_of flags p = slice_index_or flags (place_index widest p) false

-- the flags of just the blocks that transfers of the list write are up
abbrev pub AreWritten : List Transfer → List Bool → Type 0
AreWritten ts flags = (p : Place) → HasPlace widest p → flag_of flags p ≡ is_written ts p
