-- The image of a rack's memories: its words as bytes. A word's bytes stand in it as the IMS T414
-- has them in its memory, the least significant first (data sheet); that the image has the words of
-- the blocks in their order, and nothing else, is this project's choice.
use Rattle.std.specs.Prelude.{ℕ, ◌≡◌, ◌≢◌, ◌<◌, ◌+◌, ◌*◌, ◌^◌, List, length, take, drop}
use Rattle.std.specs.Int.{w32, to_le_bytes, from_le_bytes}
use Rattle.std.specs.List.{flat_map}
use Rattle.batch.specs.ShapeView.{ShapeView}
use Rattle.batch.specs.declared.transfer.Place.{Place}
use Rattle.batch.specs.Places.{place_index}
use Rattle.module_memory.specs.declared.address.TheConstants.{WORD_BYTES}
use Rattle.module_memory.specs.declared.fault.ImageFault.{ImageFault}
use Rattle.module_memory.specs.declared.fault.ImageFault.TheVariants.{Length, NoMemory}
use Rattle.module_memory.specs.Store.{Store, IsWhole, word}

-- the four bytes of a word, and the word of four bytes
abbrev pub bytes_of_word : ℕ → List ℕ
bytes_of_word w = to_le_bytes w32 w

abbrev pub word_of_bytes : List ℕ → ℕ
word_of_bytes bytes = from_le_bytes w32 bytes

-- the bytes of a block: those of its words, in their order
abbrev pub bytes_of_block : List ℕ → List ℕ
bytes_of_block words = flat_map bytes_of_word words

-- the image of a store: the bytes of its blocks, by module and then by block
abbrev pub image_of : Store → List ℕ
image_of s = flat_map bytes_of_block s.blocks

-- how many bytes the images of a shape have
abbrev pub image_length : ShapeView → ℕ
image_length shape = WORD_BYTES * (shape.modules * shape.blocks * shape.words)

-- the four bytes of word j of a block, in an image
abbrev pub word_in_image : ShapeView → List ℕ → Place → ℕ → List ℕ
word_in_image shape image p j =
    take WORD_BYTES (drop (WORD_BYTES * (shape.words * place_index shape p + j)) image)

-- each word has four bytes, and no more
abbrev pub AreWords : Store → Type 0
AreWords s = (p : Place) (j : ℕ) → word s p j < 2 ^ 32

-- the store of a shape that has this image
pub record HasImage (shape : ShapeView) (image : List ℕ) (s : Store) : Type 0 where
  pub same_shape : s.shape ≡ shape
  pub whole : IsWhole s
  pub words : AreWords s
  pub image_is : image_of s ≡ image

-- Why there is no rack of these bytes. Their number is looked at before memory is asked for.
abbrev pub IsImageFault : ShapeView → List ℕ → ImageFault → Type 0
IsImageFault shape bytes (Length is wanted) =
    (is ≡ length bytes) × (wanted ≡ image_length shape) × (is ≢ wanted)
IsImageFault shape bytes NoMemory = length bytes ≡ image_length shape
