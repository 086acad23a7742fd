-- What the laws state. Proofs use them; no contract of a call cites them.
use Rattle.std.specs.Prelude.{ℕ, ◌≡◌, ◌≢◌, ◌<◌, ◌+◌, ◌≤◌, List, [], ◌++◌, length, slice_set}
use Rattle.std.specs.Prelude.{slice_index, Contains}
use Rattle.batch.specs.ShapeView.{ShapeView}
use Rattle.batch.specs.declared.transfer.Place.{Place}
use Rattle.batch.specs.Places.{HasPlace}
use Rattle.module_memory.specs.Store.{Store, set_word, IsWhole, block_of, HasAllBlocks, word}
use Rattle.batch.specs.declared.transfer.Transfer.{Transfer}
use Rattle.batch.specs.Held.{AreHeldSources}
use Rattle.module_memory.specs.Core.{IsMovedFrom, IsReady, setting_of, at_start, run, times}
use Rattle.module_memory.specs.Core.{IsStepList, IsComplete, IsPlacedFrom, found, IsMoved, IsPlaced}
use Rattle.module_memory.specs.Lending.{BlockAt, place_in, bay_in, AreLendable, RestView, AreCopies}
use Rattle.module_memory.specs.Lending.{found_in, bays_of, without, store_rejoined, Rejoins}
use Rattle.std.specs.List.{concat}
use Rattle.module_memory.specs.Images.{image_of, image_length, word_in_image, word_of_bytes}
use Rattle.module_memory.specs.Images.{AreWords, HasImage}
use Rattle.module_memory.specs.Bays.{AreBaysOf, AreFilled, AreFound, AreLent, AreSamePlaces}
use Rattle.module_memory.specs.Bays.{destinations_of}
use Rattle.module_memory.specs.Mark.{IsMarked}
use Rattle.module_memory.specs.Settings.{IsRun, IsStoppedRun, after_steps, all_words}

-- the image of a whole store has as many bytes as those of its shape
abbrev pub ImagesAreWhole : Type 0
ImagesAreWhole = (s : Store) → IsWhole s → length (image_of s) ≡ image_length s.shape

-- a word of a block is that of its four bytes in the image
abbrev pub WordsAreInImages : Type 0
WordsAreInImages =
    (s : Store) (p : Place) (j : ℕ) → IsWhole s → AreWords s → HasPlace s.shape p
    → j < s.shape.words → word s p j ≡ word_of_bytes (word_in_image s.shape (image_of s) p j)

-- two stores of a shape that have one image are one
abbrev pub OneImaged : Type 0
OneImaged =
    (shape : ShapeView) (image : List ℕ) (a b : Store) → HasImage shape image a
    → HasImage shape image b → a ≡ b

-- the destinations of settings one after another can be lent, and the bays from a setting's first
-- number on are those of its transfers
abbrev pub SettingsHaveBays : Type 0
SettingsHaveBays =
    (s : Store) (batch : List Transfer) (before numbers after : List ℕ)
    → IsReady s s batch (before ++ numbers ++ after)
    → let places = destinations_of batch (before ++ numbers ++ after) in
    AreLendable s.shape places
    × AreBaysOf (without s places) (bays_of s places) (length before)
    (setting_of batch numbers)

-- a rack that is parted at the destinations of settings of a batch, and holds the batch's held
-- sources, has all that its transfers look for
abbrev pub SourcesAreFound : Type 0
SourcesAreFound =
    (s : Store) (batch : List Transfer) (numbers : List ℕ) (held : List Place) (rest : RestView)
    → IsReady s s batch numbers
    → rest.store ≡ without s (destinations_of batch numbers) → AreCopies s held rest.held
    → AreHeldSources batch held → AreFound (found_in rest) s batch

-- each bay that a setting writes has all words of a block
abbrev pub BaysAreWide : Type 0
BaysAreWide =
    (rest : Store) (bays : List BlockAt) (first : ℕ) (ts : List Transfer) (i : ℕ)
    → AreBaysOf rest bays first ts → Rejoins rest bays → i < length ts
    → length (bay_in bays (first + i)).words ≡ rest.shape.words

-- what workers leave in the bays of a setting is, joined with the rest, the store of their counts
abbrev pub BaysHoldTheCounts : Type 0
BaysHoldTheCounts =
    (find : Place → List ℕ) (opening rest : Store) (old new : List BlockAt) (first : ℕ)
    (ts : List Transfer) (moved : ℕ → ℕ)
    → AreBaysOf rest old first ts → AreFound find opening ts → AreFilled find old new first ts moved
    → IsMovedFrom opening (store_rejoined rest old) ts moved (store_rejoined rest new)

-- bays that stand where they stood are lent as before
abbrev pub BaysStayLent : Type 0
BaysStayLent =
    (rest : Store) (old new : List BlockAt) (first : ℕ) (ts : List Transfer)
    → AreBaysOf rest old first ts → AreSamePlaces old new → AreBaysOf rest new first ts

-- one word set in a bay is that word set in the store
abbrev pub SetIsOneWord : Type 0
SetIsOneWord =
    (rest : Store) (bays : List BlockAt) (k j w : ℕ) → AreLent rest bays → k < length bays
    → let bay = bay_in bays k in
    let new = slice_set bays k (record { place = bay.place; words = slice_set bay.words j w }) in
    store_rejoined rest new ≡ set_word (store_rejoined rest bays) bay.place j w

-- a lent block has the words of its bay
abbrev pub LentBlockIsItsBay : Type 0
LentBlockIsItsBay =
    (rest : Store) (bays : List BlockAt) (k : ℕ) → AreLent rest bays → k < length bays
    → block_of (store_rejoined rest bays) (bay_in bays k).place ≡ (bay_in bays k).words

-- a lent block has no words in the rest
abbrev pub LentBlockIsGone : Type 0
LentBlockIsGone =
    (s : Store) (places : List Place) (i : ℕ) → IsWhole s → AreLendable s.shape places
    → i < length places → block_of (without s places) (place_in places i) ≡ []

-- a block that isn't lent has the words that the rest has
abbrev pub OtherBlockIsTheRest : Type 0
OtherBlockIsTheRest =
    (rest : Store) (bays : List BlockAt) (p : Place) → AreLent rest bays → HasPlace rest.shape p
    → ((k : ℕ) → k < length bays → (bay_in bays k).place ≢ p)
    → block_of (store_rejoined rest bays) p ≡ block_of rest p

-- bays that stand where they stood, with as many words as before, rejoin as before
abbrev pub BaysStayWhole : Type 0
BaysStayWhole =
    (rest : Store) (old new : List BlockAt) → AreLent rest old → AreSamePlaces old new
    → ((k : ℕ) → k < length old → length (bay_in new k).words ≡ length (bay_in old k).words)
    → Rejoins rest old → Rejoins rest new

-- there is one such store
abbrev pub OnePlaced : Type 0
OnePlaced =
    (old a b : Store) (ts : List Transfer) → HasAllBlocks old → IsPlaced old ts a
    → IsPlaced old ts b → a ≡ b

-- one store has the counts
abbrev pub OneMoved : Type 0
OneMoved =
    (old a b : Store) (ts : List Transfer) (moved : ℕ → ℕ) → HasAllBlocks old
    → IsMoved old ts moved a → IsMoved old ts moved b → a ≡ b

-- whichever order a setting's words move in, all of them, there is one store at the end
abbrev pub OneEnd : Type 0
OneEnd =
    (opening s : Store) (batch : List Transfer) (numbers : List ℕ) → IsReady opening s batch numbers
    → let ts = setting_of batch numbers in
    (a b : List ℕ) → IsComplete ts s.shape.words a → IsComplete ts s.shape.words b
    → (run (found batch opening) ts (at_start s ts) a).store
    ≡ (run (found batch opening) ts (at_start s ts) b).store

-- after a complete step list each destination of the setting has the words that its source had in
-- the opening store, and all else is old
abbrev pub EndIsPlaced : Type 0
EndIsPlaced =
    (opening s : Store) (batch : List Transfer) (numbers : List ℕ) → IsReady opening s batch numbers
    → let ts = setting_of batch numbers in (steps : List ℕ) → IsComplete ts s.shape.words steps
    → IsPlacedFrom opening s ts (run (found batch opening) ts (at_start s ts) steps).store

-- wherever the machine stops, a destination begins with the words that were moved, as its source
-- had them in the opening store, and nothing else has changed
abbrev pub EachPrefix : Type 0
EachPrefix =
    (opening s : Store) (batch : List Transfer) (numbers : List ℕ) → IsReady opening s batch numbers
    → let ts = setting_of batch numbers in (steps : List ℕ) → IsStepList ts s.shape.words steps
    → IsMovedFrom opening s ts (λ i. times i steps)
    (run (found batch opening) ts (at_start s ts) steps).store

-- there is one such rack
abbrev pub OneMarked : Type 0
OneMarked = (old a b : Store) → HasAllBlocks old → IsMarked old a → IsMarked old b → a ≡ b

-- a run of settings places all their blocks
abbrev pub RunIsPlaced : Type 0
RunIsPlaced =
    (opening s t : Store) (batch : List Transfer) (settings : List (List ℕ))
    → IsReady opening s batch (concat settings) → IsRun opening s batch settings t
    → IsPlacedFrom opening s (setting_of batch (concat settings)) t

-- a run that stops gives the store of the counts: all words of the settings before, and of the last
-- as many as its steps
abbrev pub StopIsMoved : Type 0
StopIsMoved =
    (opening s t : Store) (batch : List Transfer) (settings : List (List ℕ))
    (numbers steps counts : List ℕ)
    → IsReady opening s batch (concat settings ++ numbers)
    → IsStoppedRun opening s batch settings numbers steps t
    → length counts ≡ length numbers
    → ((i : ℕ) → i < length numbers → slice_index counts i ≡ times i steps)
    → IsMovedFrom opening s (setting_of batch (concat settings ++ numbers))
    (slice_index (all_words s settings ++ counts)) t

-- counts over one setting, and then counts over another, are the counts over both at once
abbrev pub OneAfterAnother : Type 0
OneAfterAnother =
    (opening old mid new : Store) (batch : List Transfer) (numbers more first then_more : List ℕ)
    → IsReady opening old batch (numbers ++ more) → length first ≡ length numbers
    → IsMovedFrom opening old (setting_of batch numbers) (slice_index first) mid
    → IsMovedFrom opening mid (setting_of batch more) (slice_index then_more) new
    → IsMovedFrom opening old (setting_of batch (numbers ++ more))
    (slice_index (first ++ then_more)) new

-- after some numbers of a batch have moved, the others are as ready as they were
abbrev pub OthersStayReady : Type 0
OthersStayReady =
    (opening old mid : Store) (batch : List Transfer) (numbers more : List ℕ) (moved : ℕ → ℕ)
    → IsReady opening old batch (numbers ++ more)
    → IsMovedFrom opening old (setting_of batch numbers) moved mid → IsReady opening mid batch more

-- where each has moved all words, all blocks are placed
abbrev pub AllMovedIsPlaced : Type 0
AllMovedIsPlaced =
    (opening old new : Store) (batch : List Transfer) (numbers : List ℕ) (moved : ℕ → ℕ)
    → IsReady opening old batch numbers
    → ((i : ℕ) → i < length numbers → moved i ≡ old.shape.words)
    → IsMovedFrom opening old (setting_of batch numbers) moved new
    → IsPlacedFrom opening old (setting_of batch numbers) new

-- where each number of the batch stands, that is the whole batch
abbrev pub WholeBatchIsPlaced : Type 0
WholeBatchIsPlaced =
    (opening old new : Store) (batch : List Transfer) (numbers : List ℕ)
    → IsReady opening old batch numbers
    → ((t : ℕ) → t < length batch → Contains numbers t)
    → IsPlacedFrom opening old (setting_of batch numbers) new → IsPlacedFrom opening old batch new

-- the machine reaches the store of any counts of which none is above the words of a block
abbrev pub CountsAreReached : Type 0
CountsAreReached =
    (opening s t : Store) (batch : List Transfer) (numbers : List ℕ) (moved : ℕ → ℕ)
    → IsReady opening s batch numbers
    → ((i : ℕ) → i < length numbers → moved i ≤ s.shape.words)
    → IsMovedFrom opening s (setting_of batch numbers) moved t
    → (steps : List ℕ) × IsStepList (setting_of batch numbers) s.shape.words steps
    × ((i : ℕ) → i < length numbers → times i steps ≡ moved i)
    × (t ≡ (after_steps opening s batch numbers steps).store)
