-- A block of a module as a store of its own: the addresses are those of a window of the module, and
-- every address of another block is outside.
-- This project's choice.
use Rattle.std.specs.Prelude.{ℕ, ◌≡◌, ◌/◌, ◌%◌, ◌&&◌, ◌==◌, Bool, nat_lt, nat_le, length}
use Rattle.std.specs.Prelude.{slice_index, Result, Ok, Err, if◌then◌else◌}
use Rattle.module_memory.specs.declared.address.TheConstants.{HOLD_START, WORD_BYTES}
use Rattle.batch.specs.Places.{HasPlace}
use Rattle.batch.specs.declared.transfer.Place.{Place}
use Rattle.module_memory.specs.Store.{Store, block_of}
use Rattle.module_memory.specs.Lending.{BlockAt, RestView, HasCopy, with_word}
use Rattle.module_memory.specs.Address.{number_from}
use Rattle.peek_poke.specs.declared.fault.StoreFault.{StoreFault}
use Rattle.peek_poke.specs.declared.fault.StoreFault.TheVariants.{Misaligned, Outside}

-- the address lies in the block, in a window that begins at an address, whether it is aligned or
-- not
abbrev pub is_in_block : ℕ → BlockAt → ℕ → Bool
is_in_block start b a =
    nat_le start a && nat_lt 0 (length b.words)
    && (number_from start a / length b.words == b.place.block)

-- which word of a block an address is
abbrev pub word_in : ℕ → BlockAt → ℕ → Result ℕ StoreFault
word_in start b a =
    if a % WORD_BYTES == 0
    then (if is_in_block start b a then Ok (number_from start a % length b.words) else Err Outside)
    else Err Misaligned

-- each block at this number of a window, with so many words, has this word at the address, or this
-- fault
abbrev pub IsWordOf : ℕ → ℕ → ℕ → ℕ → Result ℕ StoreFault → Type 0
IsWordOf start block words address result =
    (b : BlockAt) → b.place.block ≡ block → length b.words ≡ words
    → result ≡ word_in start b address

-- the store has the place, and the block there isn't lent
abbrev pub HasBlock : Store → Place → Type 0
HasBlock s p = HasPlace s.shape p × (length (block_of s p) ≡ s.shape.words)

-- the rest holds the block at the place, and the store has its copy
abbrev pub IsHeldStore : RestView → Place → BlockAt → Type 0
IsHeldStore rest p store = (store.place ≡ p) × HasCopy rest p store.words

-- something done with a word that is there
abbrev pub then_do : {A B : Type 0} → Result A StoreFault → (A → B) → Result B StoreFault
then_do (Ok x) f = Ok (f x)
then_do (Err e) f = Err e

-- what reads of a block give
abbrev pub block_read : ℕ → BlockAt → ℕ → Result ℕ StoreFault
block_read start b a = then_do (word_in start b a) (λ j. slice_index b.words j)

-- what writes to a block leave
abbrev pub block_write : ℕ → BlockAt → ℕ → ℕ → Result BlockAt StoreFault
block_write start b a w = then_do (word_in start b a) (λ j. with_word b j w)

-- the same, or outside
abbrev pub or_outside : {A : Type 0} → Result A StoreFault → Result A StoreFault
or_outside (Ok x) = Ok x
or_outside (Err e) = Err Outside

-- what reads of a held block give: its words at its addresses in the hold window, and every other
-- address is outside
abbrev pub held_read : BlockAt → ℕ → Result ℕ StoreFault
held_read b a = or_outside (block_read HOLD_START b a)

-- a block that can't be written: every write is outside
abbrev pub no_write : BlockAt → ℕ → ℕ → Result BlockAt StoreFault
no_write b a w = Err Outside
