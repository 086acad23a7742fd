-- Matchings between the links 0 and the links 3 of modules, as a table for each end.
use Rattle.std.specs.Prelude.{◌≡◌, ◌↔◌, ◌<◌, ℕ, List, length, Option, Some, None, slice_index_or}
use Rattle.batch.specs.declared.limits.TheConstants.{MAX_MODULES}

-- the partner of a module, where it has one
abbrev pub partner : List (Option ℕ) → ℕ → Option ℕ
partner partners m = slice_index_or partners m None

-- whoever has a partner is one of the first n
abbrev pub AreBelow : List (Option ℕ) → ℕ → Type 0
AreBelow partners n = (x y : ℕ) → partner partners x ≡ Some y → x < n

-- partners are each other's
pub record AreMatched (of back : List (Option ℕ)) : Type 0 where
  pub sized : length of ≡ MAX_MODULES
  pub back_sized : length back ≡ MAX_MODULES
  pub each_other : (x y : ℕ) → (partner of x ≡ Some y) ↔ (partner back y ≡ Some x)
