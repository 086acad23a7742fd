-- A rack whose words tell where they stand. This project's choice.
use Rattle.std.specs.Prelude.{ℕ, ◌≡◌, ◌+◌, ◌*◌, length}
use Rattle.std.specs.List.{range_with_len}
use Rattle.batch.specs.declared.transfer.Place.{Place}
use Rattle.batch.specs.Places.{HasPlace}
use Rattle.module_memory.specs.declared.rack.TheConstants.{MODULE_MARK, BLOCK_MARK}
use Rattle.module_memory.specs.Store.{Store, block_of}

-- the first word of a block
abbrev pub first_mark : Place → ℕ
first_mark p = MODULE_MARK * p.«module» + BLOCK_MARK * p.block

-- the words of each block count up from its first
pub record IsMarked (old new : Store) : Type 0 where
  pub same_shape : new.shape ≡ old.shape
  pub same_length : length new.blocks ≡ length old.blocks
  pub words : (p : Place) → HasPlace old.shape p
      → block_of new p ≡ range_with_len (first_mark p) old.shape.words
