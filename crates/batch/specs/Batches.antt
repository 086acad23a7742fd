-- What every batch keeps.
use Rattle.std.specs.Prelude.{◌≤◌, List, length, All}
use Rattle.batch.specs.declared.limits.TheConstants.{MAX_TRANSFERS}
use Rattle.batch.specs.declared.transfer.Transfer.{Transfer}
use Rattle.batch.specs.ShapeView.{widest}
use Rattle.batch.specs.Text.{IsWithin}

-- not too many transfers, all of them between blocks of the widest shape
pub record IsBatch (ts : List Transfer) : Type 0 where
  pub few : length ts ≤ MAX_TRANSFERS
  pub within : All (IsWithin widest) ts
