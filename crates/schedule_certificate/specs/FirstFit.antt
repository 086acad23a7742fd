-- First fit, the greedy colouring of edges: transfers come by number, and each joins the first
-- setting whose transfers use other links.
use Rattle.std.specs.Prelude.{◌≡◌, ℕ, ◌<◌, ◌++◌, ◌∷◌, List, [], length, All, AllPairs, Contains}
use Rattle.std.specs.Prelude.{slice_index_or, take}
use Rattle.batch.specs.declared.transfer.Transfer.{Transfer}
use Rattle.link_graph.specs.declared.link.Link.{Link}
use Rattle.link_graph.specs.Uses.{AreApart, Uses}
use Rattle.alternating_path.specs.Classes.{with_pushed}

-- two transfers have a link in common
pub record Share (batch : List Transfer) (u t : ℕ) : Type 0 where
  pub link : Link
  pub first : Uses batch u link
  pub second : Uses batch t link

-- a smaller number of the setting has a link in common with t
pub record SharesWithSmaller (batch : List Transfer) (setting : List ℕ) (t : ℕ) : Type 0 where
  pub u : ℕ
  pub stands : Contains setting u
  pub smaller : u < t
  pub share : Share batch u t

-- No setting is empty. Numbers ascend in each setting, and each stands in the first setting that no
-- smaller number has taken from it.
pub record IsFirstFit (batch : List Transfer) (settings : List (List ℕ)) : Type 0 where
  pub none_empty : All (λ setting. 0 < length setting) settings
  pub ascending : All (AllPairs (λ t u. t < u)) settings
  pub first : (j k t : ℕ) → j < k → k < length settings → Contains (slice_index_or settings k []) t
      → SharesWithSmaller batch (slice_index_or settings j []) t

-- ---- one step, for the parts of the body

-- no number of the setting has a link in common with t: it may join them
pub record IsOpenTo (batch : List Transfer) (setting : List ℕ) (t : ℕ) : Type 0 where
  pub apart : All (λ u. AreApart batch u t) setting

-- a number of the setting has one
pub record IsBlocked (batch : List Transfer) (setting : List ℕ) (t : ℕ) : Type 0 where
  pub u : ℕ
  pub stands : Contains setting u
  pub share : Share batch u t

-- each setting has one
abbrev pub AllBlocked : List Transfer → List (List ℕ) → ℕ → Type 0
AllBlocked batch settings t = All (λ setting. IsBlocked batch setting t) settings

-- setting k is the first that is open to t
abbrev pub IsFirstOpen : List Transfer → List (List ℕ) → ℕ → ℕ → Type 0
IsFirstOpen batch settings t k =
    IsOpenTo batch (slice_index_or settings k []) t × AllBlocked batch (take k settings) t

-- t goes to the end of the first setting that is open to it, or into a new one where none is
pub data Places (batch : List Transfer) (t : ℕ) (old new : List (List ℕ)) : Type 0 where
  into : (k : ℕ) → k < length old → IsFirstOpen batch old t k → new ≡ with_pushed old k t
      → Places batch t old new
  alone : AllBlocked batch old t → new ≡ old ++ (t ∷ []) ∷ [] → Places batch t old new
