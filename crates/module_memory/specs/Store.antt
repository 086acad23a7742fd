-- The words of a rack's modules. The blocks and their order are this project's choice.
use Rattle.std.specs.Prelude.{ℕ, ◌≡◌, ◌<◌, ◌*◌, List, [], length, slice_index, slice_index_or}
use Rattle.std.specs.Prelude.{slice_get, slice_set, replicate, Option}
use Rattle.batch.specs.ShapeView.{ShapeView, IsShape}
use Rattle.batch.specs.declared.transfer.Place.{Place}
use Rattle.batch.specs.Places.{HasPlace, place_index}

-- the words of each block of a rack, the blocks by module and then by block
pub record Store : Type 0 where
  pub shape : ShapeView
  pub blocks : List (List ℕ)

-- the block is one of the shape, and stands here among all its blocks
pub record IsIndexOf (shape : ShapeView) (p : Place) (k : ℕ) : Type 0 where
  pub exists : HasPlace shape p
  pub index : k ≡ place_index shape p
  pub below : k < shape.modules * shape.blocks

-- the words of a block
abbrev pub block_of : Store → Place → List ℕ
block_of s p = slice_index_or s.blocks (place_index s.shape p) []

-- word j of a block
abbrev pub word : Store → Place → ℕ → ℕ
word s p j = slice_index (block_of s p) j

-- word j of a block, where there is one
abbrev pub find_word : Store → Place → ℕ → Option ℕ
find_word s p j = slice_get (block_of s p) j

-- the store with these words in a block, and all else as it was
abbrev pub set_block : Store → Place → List ℕ → Store
set_block s p words =
    record { shape = s.shape; blocks = slice_set s.blocks (place_index s.shape p) words }

-- the store with this word as word j of a block, and all else as it was
abbrev pub set_word : Store → Place → ℕ → ℕ → Store
set_word s p j w = set_block s p (slice_set (block_of s p) j w)

-- each block of the shape is there
abbrev pub HasAllBlocks : Store → Type 0
HasAllBlocks s = IsShape s.shape × (length s.blocks ≡ s.shape.modules * s.shape.blocks)

-- each block of the shape is there, with all its words
pub record IsWhole (s : Store) : Type 0 where
  pub within : IsShape s.shape
  pub all_blocks : length s.blocks ≡ s.shape.modules * s.shape.blocks
  pub all_words : (k : ℕ) → k < length s.blocks
      → length (slice_index_or s.blocks k []) ≡ s.shape.words

-- the store of a shape in which each word is 0
abbrev pub zeros_of : ShapeView → Store
zeros_of shape =
    record {
      shape = shape;
      blocks = replicate (shape.modules * shape.blocks) (replicate shape.words 0);
    }
