-- The pairs of modules that a setting joins, as a table.
use Rattle.std.specs.Prelude.{◌≡◌, ◌↔◌, ℕ, List, length, Option, Some, None, true, slice_index_or}
use Rattle.batch.specs.declared.limits.TheConstants.{MAX_MODULES}
use Rattle.batch.specs.declared.transfer.Transfer.{Transfer}
use Rattle.steady_schedule.specs.Changes.{are_partners}

-- at the place of each module there is the module whose link 3 its link 0 is joined to
pub record HaveResponders (transfers : List Transfer) (joined : List (Option ℕ)) : Type 0 where
  pub sized : length joined ≡ MAX_MODULES
  pub just : (u v : ℕ)
      → (slice_index_or joined u None ≡ Some v) ↔ (are_partners transfers u v ≡ true)
