-- Settings that are made of the numbers of settings that transfers have.
use Rattle.std.specs.Prelude.{◌≡◌, ℕ, ◌<◌, ◌≤◌, List, [], ◌∷◌, ◌++◌, length, All, AllPairs}
use Rattle.std.specs.Prelude.{Contains, slice_index, slice_index_or, slice_set}
use Rattle.link_graph.specs.Schedules.{times}

-- so many lists, each of them empty
pub record AreEmpty (lists : List (List ℕ)) (count : ℕ) : Type 0 where
  pub sized : length lists ≡ count
  pub none : All (λ list. list ≡ []) lists

-- the lists, with t at the end of list k
abbrev pub with_pushed : List (List ℕ) → ℕ → ℕ → List (List ℕ)
with_pushed lists k t = slice_set lists k (slice_index_or lists k [] ++ t ∷ [])

-- There are so many settings. Each transfer stands once, in the setting of its number, and no other
-- number stands there. Numbers of transfers ascend in each setting.
pub record AreGathered (numbers : List ℕ) (count : ℕ) (settings : List (List ℕ)) : Type 0 where
  pub sized : length settings ≡ count
  pub ascending : All (AllPairs (λ t u. t < u)) settings
  pub once : (t : ℕ) → t < length numbers → times t settings ≡ 1
  pub no_other : (t : ℕ) → length numbers ≤ t → times t settings ≡ 0
  pub within : (k t : ℕ) → Contains (slice_index_or settings k []) t
      → (t < length numbers) × (slice_index numbers t ≡ k)
