-- How a short list lies in its places.
use Rattle.std.specs.Prelude.{◌≡◌, ◌≤◌, ◌-◌, ◌++◌, ℕ, List, length, take, replicate}
use Rattle.batch.specs.declared.limits.TheConstants.{MAX_MODULES}

-- of all places the first so many hold the entries, and the others the blank value
pub record IsFilledUp {T : Type 0} (blank : T) (count : ℕ) (places : List T) : Type 0 where
  pub few : count ≤ MAX_MODULES
  pub filled : places ≡ take count places ++ replicate (MAX_MODULES - count) blank
  pub all : length places ≡ MAX_MODULES
