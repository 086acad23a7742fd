-- What the files of a job contain, of which one may be standard input.
use Rattle.std.specs.Prelude.{◌≡◌, ◌≢◌, ◌⊎◌, ⊤, ℕ, List, [], ◌∷◌, ◌++◌, Option, IfSome, map}
use Rattle.std.specs.Prelude.{option_map, option_to_list}
use Rattle.clap.specs.Words.{Text}
use Rattle.command_words.specs.Jobs.{Files, input_name}
use Rattle.named_files.specs.declared.contents.Contents.{Contents}

-- these bytes are what the file of a name holds
abbrev pub Holding : Type 1
Holding = List ℕ → List ℕ → Type 0

-- A file of this name was read to its end: standard input, whose bytes these are, as far as they
-- are known; or the file that holds them, and standard input is left as it was.
abbrev pub IsFileRead : Holding → Option (List ℕ) → List ℕ → List ℕ → Option (List ℕ) → Type 0
IsFileRead holds before name bytes after =
    (name ≡ input_name → IfSome before (λ known. bytes ≡ known))
    × (name ≢ input_name → holds name bytes × (after ≡ before))

-- the first names stand among the others, in their order, each at a place of its own
abbrev pub StandAmong : List Text → List Text → Type 0
StandAmong [] names = ⊤
StandAmong (one ∷ ones) [] = ⊥
StandAmong (one ∷ ones) (name ∷ names) =
    ((one ≡ name) × StandAmong ones names) ⊎ StandAmong (one ∷ ones) names

-- files of these names were read, each once at most, and no other
abbrev pub HasReadOnce : List Text → (before after : List Text) → Type 0
HasReadOnce names before after =
    (read : List Text) × (after ≡ before ++ read) × StandAmong read names

-- files of these names were read, one after another
abbrev pub AreRead : Holding → Option (List ℕ) → List (List ℕ) → List (List ℕ)
    → Option (List ℕ) → Type 0
AreRead holds before [] [] after = after ≡ before
AreRead holds before [] (file ∷ files) after = ⊥
AreRead holds before (name ∷ names) [] after = ⊥
AreRead holds before (name ∷ names) (file ∷ files) after =
    (mid : Option (List ℕ)) × IsFileRead holds before name file mid
    × AreRead holds mid names files after

-- the same of a job's files, in the order in which they are read
abbrev pub AreContents : Holding → Option (List ℕ) → Files (List ℕ) → Files (List ℕ)
    → Option (List ℕ) → Type 0
AreContents holds before names files after =
    (first second third fourth : Option (List ℕ))
    × AreRead holds before (option_to_list names.image) (option_to_list files.image) first
    × AreRead holds first (option_to_list names.list) (option_to_list files.list) second
    × AreRead holds second (option_to_list names.schedule) (option_to_list files.schedule) third
    × AreRead holds third (option_to_list names.wiring) (option_to_list files.wiring) fourth
    × AreRead holds fourth names.scripts files.scripts after

-- what was read
abbrev pub contents_in : Contents → Files (List ℕ)
contents_in contents =
    record {
      image = option_map (λ file. file.items) contents.image;
      list = option_map (λ file. file.items) contents.list;
      schedule = option_map (λ file. file.items) contents.schedule;
      wiring = option_map (λ file. file.items) contents.wiring;
      scripts = map (λ file. file.items) contents.scripts.items;
    }
