-- Files that may not have their names.
use Rattle.std.specs.Prelude.{◌≡◌, ℕ, ◌<◌, List, Some, slice_get}
use Rattle.command_words.specs.declared.uses.FileUse.{FileUse}
use Rattle.command_words.specs.declared.outputs.NameFault.{NameFault}
use Rattle.command_words.specs.declared.outputs.NameFault.TheVariants.{Input, OneName}
use Rattle.command_words.specs.Jobs.{HaveTwoNames, MayHaveName}

-- one of these files is written, and named `-`; or two of them have one name, and have to have two
abbrev pub IsMisnamed : List FileUse → NameFault → Type 0
IsMisnamed files (Input it) =
    (i : ℕ) × (slice_get files i ≡ Some it.now) × (MayHaveName it.now → ⊥)
IsMisnamed files (OneName one other) =
    (k i : ℕ) × (k < i) × (slice_get files k ≡ Some one.now) × (slice_get files i ≡ Some other.now)
    × (HaveTwoNames one.now other.now → ⊥)
