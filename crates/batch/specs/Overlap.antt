-- Which transfers of a batch overlap: they write one block, and which of them moves its words last
-- would show. This project's choice.
use Rattle.std.specs.Prelude.{ℕ, ◌≡◌, ◌≤◌, ◌<◌, ◌⊎◌, List, length, slice_index_or}
use Rattle.batch.specs.declared.transfer.Kind.TheVariants.{Push}
use Rattle.batch.specs.declared.transfer.Place.{Place}
use Rattle.batch.specs.declared.transfer.Transfer.{Transfer}
use Rattle.batch.specs.Places.{source_of, destination_of}

-- what stands at a number that no transfer has; no clause speaks of it
abbrev pub no_transfer : Transfer
no_transfer = record { kind = Push; initiator = 0; own_block = 0; responder = 0; far_block = 0 }

-- the transfer of a number
abbrev pub transfer_at : List Transfer → ℕ → Transfer
transfer_at ts i = slice_index_or ts i no_transfer

-- the block that the transfer of a number reads
abbrev pub source_at : List Transfer → ℕ → Place
source_at ts i = source_of (transfer_at ts i)

-- the block that the transfer of a number writes
abbrev pub destination_at : List Transfer → ℕ → Place
destination_at ts i = destination_of (transfer_at ts i)

-- transfers i and j of the list, i less than j, overlap: they write one block
pub record Overlap (ts : List Transfer) (i j : ℕ) : Type 0 where
  pub ordered : i < j
  pub within : j < length ts
  pub one_destination : destination_at ts i ≡ destination_at ts j

-- no transfers of the list overlap
abbrev pub IsApart : List Transfer → Type 0
IsApart ts = (i j : ℕ) → Overlap ts i j → ⊥

-- the pair i and j is before the pair k and l, or it is that pair
abbrev pub IsPairUpTo : ℕ → ℕ → ℕ → ℕ → Type 0
IsPairUpTo i j k l = (i < k) ⊎ ((i ≡ k) × (j ≤ l))

-- the first pair that overlaps, by its first number and then by its second
pub record IsFirstOverlap (ts : List Transfer) (i j : ℕ) : Type 0 where
  pub overlap : Overlap ts i j
  pub first : (k l : ℕ) → Overlap ts k l → IsPairUpTo i j k l
