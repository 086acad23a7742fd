-- The blocks that transfers change, by a flag for each block of the widest shape, and the copies of
-- a module, by a flag for each block.
use Rattle.std.specs.Prelude.{◌≡◌, ℕ, Bool, false, List, filter, map, slice_index_or}
use Rattle.std.specs.List.{range_with_len}
use Rattle.batch.specs.ShapeView.{widest}
use Rattle.batch.specs.Places.{HasPlace}
use Rattle.batch.specs.Written.{flag_of}
use Rattle.batch.specs.declared.limits.TheConstants.{MAX_BLOCKS}
use Rattle.batch.specs.declared.transfer.Place.{Place}
use Rattle.batch.specs.declared.transfer.Transfer.{Transfer}
use Rattle.module_orders.specs.Orders.{changed_by, is_copied}
use Rattle.module_orders.specs.declared.order.Order.{Order}

-- the flags of just the blocks that the transfers change are up
abbrev pub AreChanged : List Transfer → List Bool → Type 0
AreChanged ts flags = (p : Place) → HasPlace widest p → flag_of flags p ≡ changed_by ts p

-- the flags of just the blocks whose copies the orders send are up
unfoldable pub copy_flags : List Order → List Bool
copy_flags orders = map (is_copied orders) (range_with_len 0 MAX_BLOCKS)

-- whether the flag of a number is up
abbrev pub up_in : List Bool → ℕ → Bool
up_in flags n = slice_index_or flags n false

-- the numbers of the flags that are up, ascending
unfoldable pub numbers_up : List Bool → List ℕ
numbers_up flags = filter (up_in flags) (range_with_len 0 MAX_BLOCKS)
