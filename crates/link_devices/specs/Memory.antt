-- The words of a module's memory, which are bytes from a base address on.
use Rattle.std.specs.Prelude.{ℕ, ◌+◌, ◌-◌, ◌%◌, ◌==◌, ◌&&◌, List, ◌++◌, length, take, drop, nat_le}
use Rattle.std.specs.Prelude.{Result, Ok, Err, if◌then◌else◌}
use Rattle.std.specs.Int.{from_le_bytes}
use mir.Syntax.{w32}
use Rattle.module_memory.specs.declared.address.TheConstants.{WORD_BYTES}
use Rattle.peek_poke.specs.Blocks.{then_do}
use Rattle.peek_poke.specs.Messages.{word_bytes}
use Rattle.peek_poke.specs.declared.fault.StoreFault.{StoreFault}
use Rattle.peek_poke.specs.declared.fault.StoreFault.TheVariants.{Misaligned, Outside}
use Rattle.link_devices.specs.declared.memory.LentMemory.{LentMemory}
use Rattle.link_devices.specs.declared.memory.NoMemory.{NoMemory}

-- where the word of an address stands among so many bytes from a base on: all its bytes are there
abbrev pub byte_place : ℕ → ℕ → ℕ → Result ℕ StoreFault
byte_place base count address =
    if address % WORD_BYTES == 0
    then (if nat_le base address && nat_le (address - base + WORD_BYTES) count
    then Ok (address - base)
    else Err Outside)
    else Err Misaligned

-- the word at a place, the least significant byte first
abbrev pub word_from : List ℕ → ℕ → ℕ
word_from bytes place = from_le_bytes w32 (take WORD_BYTES (drop place bytes))

-- the bytes with another word at a place
abbrev pub with_word_from : List ℕ → ℕ → ℕ → List ℕ
with_word_from bytes place word =
    take place bytes ++ word_bytes word ++ drop (place + WORD_BYTES) bytes

-- what reads of the memory give
abbrev pub memory_read : ℕ → List ℕ → ℕ → Result ℕ StoreFault
memory_read base bytes address =
    then_do (byte_place base (length bytes) address) (λ place. word_from bytes place)

-- what writes to it leave
abbrev pub memory_write : ℕ → List ℕ → ℕ → ℕ → Result (List ℕ) StoreFault
memory_write base bytes address word =
    then_do (byte_place base (length bytes) address) (λ place. with_word_from bytes place word)

-- the same of memory that is lent
abbrev pub lent_read : LentMemory → ℕ → Result ℕ StoreFault
lent_read m address = memory_read m.base m.bytes.now address

abbrev pub lent_write : LentMemory → ℕ → ℕ → Result LentMemory StoreFault
lent_write m address word =
    then_do (memory_write m.base m.bytes.now address word)
    (λ bytes. record m { bytes = record m.bytes { now = bytes } })

-- where there is no memory no address is
abbrev pub none_read : NoMemory → ℕ → Result ℕ StoreFault
none_read m address = Err Outside

abbrev pub none_written : NoMemory → ℕ → ℕ → Result NoMemory StoreFault
none_written m address word = Err Outside
