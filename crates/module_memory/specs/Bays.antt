-- What those who work in the bays of a rack leave there. This project's choice.
use Rattle.std.specs.Prelude.{ℕ, ◌≡◌, ◌≤◌, ◌<◌, ◌+◌, ◌*◌, ◌⊎◌, List, ◌++◌, length, map, take, drop}
use Rattle.batch.specs.declared.transfer.Place.{Place}
use Rattle.batch.specs.declared.transfer.Transfer.{Transfer}
use Rattle.batch.specs.Overlap.{source_at, destination_at}
use Rattle.module_memory.specs.Store.{Store, block_of}
use Rattle.module_memory.specs.Lending.{BlockAt, bay_in, places_of, AreLendable}

-- a rest with all blocks of its shape, and bays of different places of it
pub record AreLent (rest : Store) (bays : List BlockAt) : Type 0 where
  pub lendable : AreLendable rest.shape (places_of bays)
  pub all_blocks : length rest.blocks ≡ rest.shape.modules * rest.shape.blocks

-- the bays from a position on are those of the transfers' destinations, in order
pub record AreBaysOf (rest : Store) (bays : List BlockAt) (first : ℕ)
    (ts : List Transfer) : Type 0 where
  pub lent : AreLent rest bays
  pub within : first + length ts ≤ length bays
  pub destinations : (i : ℕ) → i < length ts → (bay_in bays (first + i)).place ≡ destination_at ts i

-- where transfers find their words by a rule, each finds what its source had in the opening store
abbrev pub AreFound : (Place → List ℕ) → Store → List Transfer → Type 0
AreFound find opening ts =
    (i : ℕ) → i < length ts → find (source_at ts i) ≡ block_of opening (source_at ts i)

-- the bays stand where they stood
pub record AreSamePlaces (old new : List BlockAt) : Type 0 where
  pub same_length : length new ≡ length old
  pub same_places : (k : ℕ) → k < length old → (bay_in new k).place ≡ (bay_in old k).place

-- each bay of the transfers begins with the words that its transfer has found and moved, and all
-- else in the bays is old
pub record AreFilled (find : Place → List ℕ) (old new : List BlockAt) (first : ℕ)
    (ts : List Transfer) (moved : ℕ → ℕ) : Type 0 where
  pub places : AreSamePlaces old new
  pub filled : (i : ℕ) → i < length ts
      → (bay_in new (first + i)).words
      ≡ take (moved i) (find (source_at ts i)) ++ drop (moved i) (bay_in old (first + i)).words
  pub others : (k : ℕ) → k < length old → (k < first) ⊎ (first + length ts ≤ k)
      → (bay_in new k).words ≡ (bay_in old k).words

-- the blocks that these numbers of a batch write, in their order
abbrev pub destinations_of : List Transfer → List ℕ → List Place
destinations_of batch numbers = map (destination_at batch) numbers
