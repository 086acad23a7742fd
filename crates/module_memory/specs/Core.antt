-- The machine that moves the words of a setting's transfers, one word of one transfer at a time.
-- This project's choice.
use Rattle.std.specs.Prelude.{ℕ, ◌≡◌, ◌≢◌, ◌≤◌, ◌<◌, ◌+◌, ◌==◌, List, [], ◌∷◌, ◌++◌, length, map}
use Rattle.std.specs.Prelude.{take, drop, slice_index, slice_set, count_by, All, if◌then◌else◌}
use Rattle.batch.specs.declared.transfer.Place.{Place}
use Rattle.batch.specs.declared.transfer.Transfer.{Transfer}
use Rattle.batch.specs.Places.{HasPlace, source_of, destination_of}
use Rattle.batch.specs.Overlap.{transfer_at, source_at, destination_at, IsApart}
use Rattle.batch.specs.Held.{is_written}
use Rattle.batch.specs.ShapeView.{ShapeView}
use Rattle.module_memory.specs.Store.{Store, IsWhole, block_of, set_word}

-- a store, and how many words each transfer of a setting has moved
pub record Core : Type 0 where
  pub store : Store
  pub moved : List ℕ

-- before any step
abbrev pub at_start : Store → List Transfer → Core
at_start s ts = record { store = s; moved = map (λ _. 0) ts }

-- word j of what is found at the transfer's source, copied to its destination
abbrev pub copy_word : (Place → List ℕ) → Store → Transfer → ℕ → Store
copy_word found s t j = set_word s (destination_of t) j (slice_index (found (source_of t)) j)

-- transfer i moves its next word, where transfers find their words by a rule, in the store as it
-- now is
abbrev pub step : (Store → Place → List ℕ) → List Transfer → Core → ℕ → Core
step find ts c i = record {
  store = copy_word (find c.store) c.store (transfer_at ts i) (slice_index c.moved i);
  moved = slice_set c.moved i (slice_index c.moved i + 1);
}

-- the transfers of these numbers move a word each, in this order
abbrev pub run : (Store → Place → List ℕ) → List Transfer → Core → List ℕ → Core
run find ts c [] = c
run find ts c (i ∷ steps) = run find ts (step find ts c i) steps

-- how often a step list has transfer i
abbrev pub times : ℕ → List ℕ → ℕ
times i steps = count_by (λ k. k == i) steps

-- steps of these transfers, each at most as often as a block has words
pub record IsStepList (ts : List Transfer) (words : ℕ) (steps : List ℕ) : Type 0 where
  pub known : All (λ i. i < length ts) steps
  pub bounded : (i : ℕ) → i < length ts → times i steps ≤ words

-- steps of these transfers, each as often as a block has words
pub record IsComplete (ts : List Transfer) (words : ℕ) (steps : List ℕ) : Type 0 where
  pub known : All (λ i. i < length ts) steps
  pub complete : (i : ℕ) → i < length ts → times i steps ≡ words

-- the blocks of the transfers exist
abbrev pub FitsIn : ShapeView → List Transfer → Type 0
FitsIn shape ts =
    (i : ℕ) → i < length ts → HasPlace shape (source_at ts i) × HasPlace shape (destination_at ts i)

-- no transfer of the list writes the block
abbrev pub IsUnwritten : List Transfer → Place → Type 0
IsUnwritten ts p = (i : ℕ) → i < length ts → destination_at ts i ≢ p

-- What a transfer of the batch finds at a place, in the store as it now is: where the batch writes
-- that block too, the words that it had in the opening store, which were copied before any word
-- moved; else its words as they now are.
abbrev pub found : List Transfer → Store → Store → Place → List ℕ
found batch opening now p = if is_written batch p then block_of opening p else block_of now p

-- the store of the counts: each destination begins with the words that its transfer has moved, as
-- its source had them in the opening store, and all else is old
pub record IsMovedFrom (opening old : Store) (ts : List Transfer) (moved : ℕ → ℕ)
    (new : Store) : Type 0 where
  pub same_shape : new.shape ≡ old.shape
  pub same_length : length new.blocks ≡ length old.blocks
  pub destinations : (i : ℕ) → i < length ts
      → block_of new (destination_at ts i)
      ≡ take (moved i) (block_of opening (source_at ts i))
      ++ drop (moved i) (block_of old (destination_at ts i))
  pub others : (p : Place) → HasPlace old.shape p → IsUnwritten ts p
      → block_of new p ≡ block_of old p

-- the same, where the old store is the opening store
abbrev pub IsMoved : Store → List Transfer → (ℕ → ℕ) → Store → Type 0
IsMoved old ts moved new = IsMovedFrom old old ts moved new

-- all blocks of the transfers are placed at once: each destination has the words that its source
-- had in the opening store, and all else is old
pub record IsPlacedFrom (opening old : Store) (ts : List Transfer) (new : Store) : Type 0 where
  pub same_shape : new.shape ≡ old.shape
  pub same_length : length new.blocks ≡ length old.blocks
  pub destinations : (i : ℕ) → i < length ts
      → block_of new (destination_at ts i) ≡ block_of opening (source_at ts i)
  pub others : (p : Place) → HasPlace old.shape p → IsUnwritten ts p
      → block_of new p ≡ block_of old p

-- the same, where the old store is the opening store
abbrev pub IsPlaced : Store → List Transfer → Store → Type 0
IsPlaced old ts new = IsPlacedFrom old old ts new

-- the transfers of a setting, by their numbers in the batch
abbrev pub setting_of : List Transfer → List ℕ → List Transfer
setting_of batch numbers = map (transfer_at batch) numbers

-- numbers of the batch, each at most once
pub record IsSetting (batch : List Transfer) (numbers : List ℕ) : Type 0 where
  pub known : All (λ t. t < length batch) numbers
  pub distinct : (i j : ℕ) → i < length numbers → j < length numbers
      → slice_index numbers i ≡ slice_index numbers j → i ≡ j

-- at each source of the batch that the batch doesn't write, the store is as the opening store was
abbrev pub AgreesAtSources : Store → List Transfer → Store → Type 0
AgreesAtSources opening batch s =
    (i : ℕ) → i < length batch → IsUnwritten batch (source_at batch i)
    → block_of s (source_at batch i) ≡ block_of opening (source_at batch i)

-- a whole opening store and a whole store that agrees with it at such sources, a batch of their
-- blocks that doesn't overlap, and some of its numbers
pub record IsReady (opening s : Store) (batch : List Transfer) (numbers : List ℕ) : Type 0 where
  pub opening_whole : IsWhole opening
  pub whole : IsWhole s
  pub same_shape : s.shape ≡ opening.shape
  pub agrees : AgreesAtSources opening batch s
  pub places : FitsIn s.shape batch
  pub apart : IsApart batch
  pub setting : IsSetting batch numbers
