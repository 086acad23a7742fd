-- What goes over the wire of a transfer. Source of the messages: INMOS IMS T414 data sheet.
use Rattle.std.specs.Prelude.{◌≡◌, ◌<◌, ◌++◌, ℕ, List, [], ◌∷◌, slice_index}
use Rattle.std.specs.List.{flat_map, range_with_len}
use Rattle.batch.specs.ShapeView.{ShapeView}
use Rattle.batch.specs.declared.transfer.Kind.{Kind}
use Rattle.batch.specs.declared.transfer.Kind.TheVariants.{Push, Pull}
use Rattle.batch.specs.declared.transfer.Place.{Place}
use Rattle.module_memory.specs.declared.address.TheConstants.{HOLD_START, WINDOW_START}
use Rattle.module_memory.specs.Address.{address_from, address_of}
use Rattle.module_memory.specs.Lending.{RestView, copy_of}
use Rattle.peek_poke.specs.declared.message.Message.TheVariants.{Peek, Poke}
use Rattle.peek_poke.specs.Messages.{spell, word_bytes}
use Rattle.peek_poke.specs.Sending.{IsCut}

-- a word of a block goes as a poke to its address in the block that is written
abbrev pub pushed : ShapeView → ℕ → List ℕ → ℕ → List ℕ
pushed shape block words j = spell (Poke (address_of shape block j) (slice_index words j))

-- where the window begins in which a block is peeked that has this copy: a held block is peeked in
-- the hold window
abbrev pub window_for : List ℕ → ℕ
window_for [] = WINDOW_START
window_for (x ∷ xs) = HOLD_START

-- where the window begins in which a transfer peeks its source
abbrev pub window_of : RestView → Place → ℕ
window_of rest p = window_for (copy_of rest p)

-- or as a peek of its address in the block that is read, in that window, and the bytes of the word
-- that come back
abbrev pub pulled : ℕ → ShapeView → ℕ → List ℕ → ℕ → List ℕ
pulled window shape block words j =
    spell (Peek (address_from window shape block j)) ++ word_bytes (slice_index words j)

-- a word of a transfer goes as its kind says
abbrev pub sent : Kind → ℕ → ShapeView → ℕ → ℕ → List ℕ → ℕ → List ℕ
sent Push window shape written read words j = pushed shape written words j
sent Pull window shape written read words j = pulled window shape read words j

-- the bytes of the first so many words
abbrev pub first_sent : (ℕ → List ℕ) → ℕ → List ℕ
first_sent bytes count = flat_map bytes (range_with_len 0 count)

-- A wire has carried the bytes of so many words, one after the other, and no others where these are
-- all. Where it failed, it has carried less than the next word's bytes after them.
pub record HasCarried (bytes : ℕ → List ℕ) (words count : ℕ) (old new : List ℕ) : Type 0 where
  pub whole : count ≡ words → new ≡ old ++ first_sent bytes count
  pub short : count < words → IsCut (bytes count) (old ++ first_sent bytes count) new
