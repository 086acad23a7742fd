-- What the laws state. Proofs use them; no contract of a call cites them.
use Rattle.std.specs.Prelude.{ℕ, ◌≡◌, ◌<◌, List, ◌++◌, length, All, ◌≢◌, ◌%◌, slice_index, Ok, Err}
use Rattle.std.specs.List.{flat_map}
use Rattle.peek_poke.specs.declared.message.Message.{Message}
use Rattle.batch.specs.ShapeView.{ShapeView}
use Rattle.module_memory.specs.declared.address.TheConstants.{WORD_BYTES}
use Rattle.module_memory.specs.Lending.{BlockAt, with_word}
use Rattle.module_memory.specs.Address.{address_from}
use Rattle.peek_poke.specs.declared.fault.StoreFault.TheVariants.{Outside}
use Rattle.peek_poke.specs.Messages.{IsMessage, IsPartial, spell}
use Rattle.peek_poke.specs.Blocks.{block_read, block_write}

-- a text is that of one list of messages and one rest, at most
abbrev pub OneReading : Type 0
OneReading =
    (messages others : List Message) (rest left : List ℕ) → All IsMessage messages
    → All IsMessage others → IsPartial rest → IsPartial left
    → flat_map spell messages ++ rest ≡ flat_map spell others ++ left
    → (messages ≡ others) × (rest ≡ left)

-- at the address of word j of a block stands that word
abbrev pub WordsAreRead : Type 0
WordsAreRead =
    (start : ℕ) (shape : ShapeView) (b : BlockAt) (j : ℕ) → start % WORD_BYTES ≡ 0
    → length b.words ≡ shape.words → j < shape.words
    → block_read start b (address_from start shape b.place.block j) ≡ Ok (slice_index b.words j)

-- a write to the address of word j of a block changes that word alone
abbrev pub WordsAreWritten : Type 0
WordsAreWritten =
    (start : ℕ) (shape : ShapeView) (b : BlockAt) (j w : ℕ) → start % WORD_BYTES ≡ 0
    → length b.words ≡ shape.words → j < shape.words
    → block_write start b (address_from start shape b.place.block j) w ≡ Ok (with_word b j w)

-- the address of a word of another block of the module is outside
abbrev pub OthersAreOutside : Type 0
OthersAreOutside =
    (start : ℕ) (shape : ShapeView) (b : BlockAt) (other j w : ℕ) → start % WORD_BYTES ≡ 0
    → length b.words ≡ shape.words → j < shape.words → other ≢ b.place.block
    → (block_read start b (address_from start shape other j) ≡ Err Outside)
    × (block_write start b (address_from start shape other j) w ≡ Err Outside)
