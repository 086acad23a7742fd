-- What the parts of the checker say to one another.
use Rattle.std.specs.Prelude.{◌≡◌, ℕ, ◌<◌, List, ◌++◌, length, Bool, true, false, Contains}
use Rattle.std.specs.Prelude.{slice_get, slice_index_or}
use Rattle.std.specs.List.{filter_map}
use Rattle.batch.specs.declared.transfer.Transfer.{Transfer}
use Rattle.link_graph.specs.Certificates.{AreDistinct}
use Rattle.link_graph.specs.Checks.{IsFirstRepeated}

-- just the numbers of the list are marked
pub record AreMarks (marks : List Bool) (xs : List ℕ) : Type 0 where
  pub marked : (t : ℕ) → t < length marks → slice_index_or marks t false ≡ true → Contains xs t
  pub unmarked : (t : ℕ) → t < length marks → slice_index_or marks t false ≡ false → Contains xs t
      → ⊥

-- the transfers of these numbers
abbrev pub members : List Transfer → List ℕ → List Transfer
members batch setting = filter_map (λ t. slice_get batch t) setting

-- whatever distinct numbers were marked before the list, and whatever follows it, t is the first to
-- stand a second time
abbrev pub RepeatsFirst : List Bool → List ℕ → ℕ → Type 0
RepeatsFirst marks list t =
    (before rest : List ℕ) → AreMarks marks before → AreDistinct before
    → IsFirstRepeated (before ++ (list ++ rest)) t

-- the list is marked besides what was marked before
abbrev pub MarksAlso : List Bool → List Bool → List ℕ → Type 0
MarksAlso old new list = (before : List ℕ) → AreMarks old before → AreMarks new (before ++ list)

-- the list repeats none of its own numbers, and none that was marked before
abbrev pub RepeatsNone : List Bool → List ℕ → Type 0
RepeatsNone marks list =
    (before : List ℕ) → AreMarks marks before → AreDistinct before → AreDistinct (before ++ list)
