-- The addresses of a module's words: INMOS IMS T414 data sheet, memory map (the words are from
-- `WINDOW_START` on, four bytes each).
-- That a module has one window of blocks is this project's choice.
use Rattle.std.specs.Prelude.{Bool, ℕ, ◌≡◌, ◌<◌, ◌+◌, ◌-◌, ◌*◌, ◌/◌, ◌%◌, ◌&&◌, ◌==◌, nat_lt}
use Rattle.std.specs.Prelude.{nat_le, Option, Some, None, if◌then◌else◌}
use Rattle.batch.specs.ShapeView.{ShapeView}
use Rattle.batch.specs.declared.transfer.Place.{Place}
use Rattle.batch.specs.Places.{HasPlace}
use Rattle.module_memory.specs.declared.address.TheConstants.{WINDOW_START, WORD_BYTES}
use Rattle.module_memory.specs.declared.fault.MemoryFault.{MemoryFault}
use Rattle.module_memory.specs.declared.fault.MemoryFault.TheVariants.{NoModule, Misaligned}
use Rattle.module_memory.specs.declared.fault.MemoryFault.TheVariants.{Outside}
use Rattle.module_memory.specs.Store.{Store, word, set_word}

-- the address of word j of block b, in a window that begins at an address
abbrev pub address_from : ℕ → ShapeView → ℕ → ℕ → ℕ
address_from start shape b j = start + WORD_BYTES * (b * shape.words + j)

-- which word of such a window an address is, counted over all blocks
abbrev pub number_from : ℕ → ℕ → ℕ
number_from start a = (a - start) / WORD_BYTES

-- the address of word j of block b
abbrev pub address_of : ShapeView → ℕ → ℕ → ℕ
address_of shape b j = address_from WINDOW_START shape b j

-- which word of its module an address is
abbrev pub word_number : ℕ → ℕ
word_number a = number_from WINDOW_START a

-- the block of a module's address, if it has that address
abbrev pub place_of : ShapeView → ℕ → ℕ → Place
place_of shape m a = record { «module» = m; block = word_number a / shape.words }

-- which word of its block an address is
abbrev pub word_index : ShapeView → ℕ → ℕ
word_index shape a = word_number a % shape.words

-- the address is in the window of a module
abbrev pub is_inside : ShapeView → ℕ → Bool
is_inside shape a = nat_le WINDOW_START a && nat_lt (word_number a) (shape.blocks * shape.words)

-- why a module has no such address, if it hasn't: the first of three causes
abbrev pub fault_of : ShapeView → ℕ → ℕ → Option MemoryFault
fault_of shape m a =
    if nat_lt m shape.modules
    then
    (if a % WORD_BYTES == 0
    then (if is_inside shape a then None else Some Outside)
    else Some Misaligned)
    else Some NoModule

-- the word at an address of a module
abbrev pub word_at : Store → ℕ → ℕ → ℕ
word_at s m a = word s (place_of s.shape m a) (word_index s.shape a)

-- the store with this word at an address of a module, and all else as it was
abbrev pub write_at : Store → ℕ → ℕ → ℕ → Store
write_at s m a w = set_word s (place_of s.shape m a) (word_index s.shape a) w

-- why there is no word at an address of a module
abbrev pub IsMemoryFault : Store → ℕ → ℕ → MemoryFault → Type 0
IsMemoryFault s m a fault = fault_of s.shape m a ≡ Some fault

-- there is a word at an address of a module, and it is this one
abbrev pub IsWordAt : Store → ℕ → ℕ → ℕ → Type 0
IsWordAt s m a w = (fault_of s.shape m a ≡ None) × (w ≡ word_at s m a)

-- there is a word at an address of a module, and the new store has this one there
abbrev pub IsWrittenAt : Store → ℕ → ℕ → ℕ → Store → Type 0
IsWrittenAt old m a w new = (fault_of old.shape m a ≡ None) × (new ≡ write_at old m a w)

-- the place of a block and the position in it are those of an address of a module
pub record IsSiteOf (shape : ShapeView) (m a : ℕ) (place : Place) (position : ℕ) : Type 0 where
  pub no_fault : fault_of shape m a ≡ None
  pub place_is : place ≡ place_of shape m a
  pub position_is : position ≡ word_index shape a
  pub exists : HasPlace shape place
  pub within : position < shape.words
