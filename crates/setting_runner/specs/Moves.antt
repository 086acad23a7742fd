-- What a setting's transfers move into their bays, as a function of how many words each has moved.
use Rattle.std.specs.Prelude.{◌≡◌, ℕ, ◌≤◌, ◌<◌, List, [], ◌∷◌, ◌++◌, length, map, take, drop}
use Rattle.std.specs.Prelude.{slice_index, Result, Ok}
use Rattle.std.specs.List.{AllByRecursion}
use Rattle.batch.specs.declared.transfer.Transfer.{Transfer}
use Rattle.batch.specs.declared.transfer.Place.{Place}
use Rattle.batch.specs.Places.{HasPlace}
use Rattle.batch.specs.Overlap.{source_at, destination_at}
use Rattle.module_memory.specs.Address.{address_from}
use Rattle.peek_poke.specs.declared.fault.StoreFault.{StoreFault}
use Rattle.module_memory.specs.Lending.{RestView, BlockAt, found_in}

-- a transfer of the batch can move its words into a bay
pub record IsMovable (rest : RestView) (batch : List Transfer) (t : ℕ)
    (bay : BlockAt) : Type 0 where
  pub known : t < length batch
  pub source_exists : HasPlace rest.store.shape (source_at batch t)
  pub source_here : length (found_in rest (source_at batch t)) ≡ rest.store.shape.words
  pub place : bay.place ≡ destination_at batch t
  pub bay_exists : HasPlace rest.store.shape bay.place
  pub bay_width : length bay.words ≡ rest.store.shape.words

-- each transfer can move its words into its bay
abbrev pub AreMovable : RestView → List Transfer → List ℕ → List BlockAt → Type 0
AreMovable rest batch [] [] = Unit {0}
AreMovable rest batch (t ∷ numbers) (bay ∷ bays) =
    IsMovable rest batch t bay × AreMovable rest batch numbers bays
AreMovable rest batch _ _ = ⊥

-- a block into which so many words have moved: they stand in front, and after them its own
abbrev pub moved_into : ℕ → List ℕ → List ℕ → List ℕ
moved_into count words old = take count words ++ drop count old

-- reads of a store give the words that a transfer finds at its source, at the block's addresses in
-- a window
abbrev pub ReadsFound : (ℕ → Result ℕ StoreFault) → ℕ → RestView → Place → Type 0
ReadsFound reads window rest p =
    (j : ℕ) → j < rest.store.shape.words
    → reads (address_from window rest.store.shape p.block j) ≡ Ok (slice_index (found_in rest p) j)

-- The transfer is named with its words, and its bay begins with as many words of its source. A
-- transfer whose wire never fails has moved them all.
pub record HasMoved (sure : ℕ → Type 0) (rest : RestView) (batch : List Transfer) (t : ℕ)
    (old new : BlockAt) (moved : ℕ × ℕ) : Type 0 where
  pub named : moved.0 ≡ t
  pub at_most : moved.1 ≤ rest.store.shape.words
  pub place : new.place ≡ old.place
  pub words : new.words ≡ moved_into moved.1 (found_in rest (source_at batch t)) old.words
  pub all_words : sure t → moved.1 ≡ rest.store.shape.words

-- the same of each transfer, in order
abbrev pub HaveMoved : (ℕ → Type 0) → RestView → List Transfer → List ℕ → List BlockAt
    → List BlockAt
    → List (ℕ × ℕ) → Type 0
HaveMoved sure rest batch [] [] [] [] = Unit {0}
HaveMoved sure rest batch (t ∷ numbers) (old ∷ olds) (new ∷ news) (m ∷ moved) =
    HasMoved sure rest batch t old new m × HaveMoved sure rest batch numbers olds news moved
HaveMoved sure rest batch _ _ _ _ = ⊥

-- no wire is known never to fail
abbrev pub none_sure : ℕ → Type 0
none_sure t = ⊥

-- each transfer has moved so many words
abbrev pub all_moved : List ℕ → ℕ → List (ℕ × ℕ)
all_moved numbers words = map (λ t. (t, words)) numbers

-- every transfer has moved as many words as a block has
abbrev pub AllWhole : ℕ → List (ℕ × ℕ) → Type 0
AllWhole words moved = AllByRecursion (λ m. words ≤ m.1) moved
