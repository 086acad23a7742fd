-- A rack of which some blocks are lent: bays that own the words of their blocks, and the rest. This
-- project's choice.
use Rattle.std.specs.Prelude.{ℕ, ◌≡◌, ◌≢◌, ◌<◌, ◌⊎◌, List, [], ◌∷◌, length, map, slice_index_or}
use Rattle.std.specs.Prelude.{slice_set, All}
use Rattle.batch.specs.ShapeView.{ShapeView}
use Rattle.batch.specs.declared.transfer.Place.{Place}
use Rattle.batch.specs.Places.{HasPlace, place_index}
use Rattle.module_memory.specs.declared.fault.LendFault.{LendFault}
use Rattle.module_memory.specs.declared.fault.LendFault.TheVariants.{SamePlace, NoPlace, NoHeld}
use Rattle.module_memory.specs.declared.fault.LendFault.TheVariants.{NoMemory}
use Rattle.module_memory.specs.Store.{Store, IsWhole, block_of, set_block}

-- a block: where it stands, and its words
pub record BlockAt : Type 0 where
  pub place : Place
  pub words : List ℕ

-- the same with this word as word j
abbrev pub with_word : BlockAt → ℕ → ℕ → BlockAt
with_word b j w = record { place = b.place; words = slice_set b.words j w }

-- the place at a position of a list; past the end, one that no clause speaks of
abbrev pub place_in : List Place → ℕ → Place
place_in places i = slice_index_or places i (record { «module» = 0; block = 0 })

-- the bay at a position of a list; past the end, one that no clause speaks of
abbrev pub bay_in : List BlockAt → ℕ → BlockAt
bay_in bays k =
    slice_index_or bays k (record { place = record { «module» = 0; block = 0 }; words = [] })

-- the places of bays
abbrev pub places_of : List BlockAt → List Place
places_of bays = map (λ (b : BlockAt). b.place) bays

-- the places before the one at a position exist
abbrev pub ExistBefore : ShapeView → List Place → ℕ → Type 0
ExistBefore shape places i = (k : ℕ) → k < i → HasPlace shape (place_in places k)

-- the places before the one at a position are different
abbrev pub DifferBefore : List Place → ℕ → Type 0
DifferBefore places i = (j k : ℕ) → j < k → k < i → place_in places j ≢ place_in places k

-- the place stands before too
abbrev pub OccursBefore : List Place → ℕ → Type 0
OccursBefore places i = (k : ℕ) × (k < i) × (place_in places k ≡ place_in places i)

-- the first of the places that doesn't exist
pub record IsFirstMissing (shape : ShapeView) (places : List Place) (i : ℕ) : Type 0 where
  pub within : i < length places
  pub missing : HasPlace shape (place_in places i) → ⊥
  pub before : ExistBefore shape places i

-- the first of the places that stands before too
pub record IsFirstRepeated (places : List Place) (i : ℕ) : Type 0 where
  pub within : i < length places
  pub again : OccursBefore places i
  pub before : DifferBefore places i

-- the places exist, and no two are one
pub record AreLendable (shape : ShapeView) (places : List Place) : Type 0 where
  pub exist : ExistBefore shape places (length places)
  pub distinct : DifferBefore places (length places)

-- The first place at fault. That a place doesn't exist is looked at first, over all places and then
-- over all held places, and memory is asked for last, where there is something to lend or to copy.
abbrev pub IsLendFault : ShapeView → List Place → List Place → LendFault → Type 0
IsLendFault shape places held (NoPlace i) = IsFirstMissing shape places i
IsLendFault shape places held (NoHeld i) =
    ExistBefore shape places (length places) × IsFirstMissing shape held i
IsLendFault shape places held (SamePlace i) =
    ExistBefore shape places (length places) × ExistBefore shape held (length held)
    × IsFirstRepeated places i
IsLendFault shape places held NoMemory =
    AreLendable shape places × ExistBefore shape held (length held)
    × ((0 < length places) ⊎ (0 < length held))

-- the bays of these places
abbrev pub bays_of : Store → List Place → List BlockAt
bays_of s places = map (λ p. record { place = p; words = block_of s p }) places

-- what stays: no words at these places
abbrev pub without : Store → List Place → Store
without s [] = s
without s (p ∷ places) = without (set_block s p []) places

-- the store of the rest and the bays: the words of each bay in its place
abbrev pub store_rejoined : Store → List BlockAt → Store
store_rejoined rest [] = rest
store_rejoined rest (b ∷ bays) = store_rejoined (set_block rest b.place b.words) bays

-- ---- what is held

-- what is left of a rack: the blocks, of which those that are lent have no words, and copies of the
-- blocks that are held, of which those that aren't held have none
pub record RestView : Type 0 where
  pub store : Store
  pub held : List (List ℕ)

-- the copy of a block among copies by where the blocks stand: it is empty where the block isn't
-- held
abbrev pub copy_in : ShapeView → List (List ℕ) → Place → List ℕ
copy_in shape copies p = slice_index_or copies (place_index shape p) []

-- the copy of a block
abbrev pub copy_of : RestView → Place → List ℕ
copy_of rest p = copy_in rest.store.shape rest.held p

-- the first of two lists, if it has anything, else the second
abbrev pub or_else : List ℕ → List ℕ → List ℕ
or_else [] ys = ys
or_else (x ∷ xs) ys = x ∷ xs

-- what a transfer finds at a place of the rest: the copy of a held block, else the block
abbrev pub found_in : RestView → Place → List ℕ
found_in rest p = or_else (copy_of rest p) (block_of rest.store p)

-- the copies of these places have the words that the store has there, and there is no other copy
pub record AreCopies (s : Store) (held : List Place) (copies : List (List ℕ)) : Type 0 where
  pub copied : (i : ℕ) → i < length held
      → copy_in s.shape copies (place_in held i) ≡ block_of s (place_in held i)
  pub others : (p : Place) → HasPlace s.shape p → ((i : ℕ) → i < length held → place_in held i ≢ p)
      → copy_in s.shape copies p ≡ []

-- the rack has the block, and a copy of it with these words, as many as a block has
pub record HasCopy (rest : RestView) (p : Place) (words : List ℕ) : Type 0 where
  pub exists : HasPlace rest.store.shape p
  pub words_are : words ≡ copy_of rest p
  pub all_words : length words ≡ rest.store.shape.words
  pub some : 0 < length words

-- each copy has all words of a block, or none
abbrev pub AreWholeCopies : ShapeView → List (List ℕ) → Type 0
AreWholeCopies shape copies =
    (p : Place) → HasPlace shape p
    → (copy_in shape copies p ≡ []) ⊎ (length (copy_in shape copies p) ≡ shape.words)

-- the bays have places of the rack, and nothing is missing
pub record Rejoins (rest : Store) (bays : List BlockAt) : Type 0 where
  pub exist : All (λ (b : BlockAt). HasPlace rest.shape b.place) bays
  pub whole : IsWhole (store_rejoined rest bays)
