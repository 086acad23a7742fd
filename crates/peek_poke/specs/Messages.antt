-- The messages to an answering end and their bytes: INMOS IMS T414 data sheet, peek and poke over a
-- link.
use Rattle.std.specs.Prelude.{ℕ, ◌≡◌, ◌<◌, ◌+◌, ◌^◌, ◌⊎◌, List, [], ◌∷◌, ◌++◌, length, take, Bool}
use Rattle.std.specs.Prelude.{false}
use Rattle.std.specs.Int.{to_le_bytes}
use mir.Syntax.{w32}
use Rattle.peek_poke.specs.declared.message.TheConstants.{POKE, PEEK, POKE_BYTES, PEEK_BYTES}
use Rattle.peek_poke.specs.declared.message.Message.{Message}
use Rattle.peek_poke.specs.declared.message.Message.TheVariants.{Poke, Peek}

-- the four bytes of a word or an address, the least significant first
abbrev pub word_bytes : ℕ → List ℕ
word_bytes n = to_le_bytes w32 n

-- the bytes of a message: its control byte, the address, and the word that a poke writes
abbrev pub spell : Message → List ℕ
spell (Poke address word) = POKE ∷ word_bytes address ++ word_bytes word
spell (Peek address) = PEEK ∷ word_bytes address

-- what a message names are words of 32 bits
abbrev pub IsMessage : Message → Type 0
IsMessage (Poke address word) = (address < 2 ^ 32) × (word < 2 ^ 32)
IsMessage (Peek address) = address < 2 ^ 32

-- less than a whole message: nothing, or the control byte of one and fewer bytes after it than the
-- message has
abbrev pub IsPartial : List ℕ → Type 0
IsPartial [] = Unit {0}
IsPartial (control ∷ bytes) =
    ((control ≡ POKE) × (length bytes + 1 < POKE_BYTES))
    ⊎ ((control ≡ PEEK) × (length bytes + 1 < PEEK_BYTES))

-- the bytes at the front of a message's buffer, so many, are less than a whole message
abbrev pub IsPartialMessage : List ℕ → ℕ → Type 0
IsPartialMessage buffer count =
    IsPartial (take count buffer) × (count < POKE_BYTES) × (length buffer ≡ POKE_BYTES)

-- an answering end: whether it has failed, what has come of the next message, and all bytes that it
-- was handed
pub record Pending : Type 0 where
  pub failed : Bool
  pub bytes : List ℕ
  pub taken : List ℕ

-- it hasn't failed, and nothing has come of a next message
abbrev pub IsAtRest : Pending → Type 0
IsAtRest end = (end.failed ≡ false) × (end.bytes ≡ [])

-- an answering end at rest which was handed these bytes in all
abbrev pub rest_after : List ℕ → Pending
rest_after bytes = record { failed = false; bytes = []; taken = bytes }
