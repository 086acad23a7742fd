-- No cell of a picture hides another, and each stands where it can be seen. The number of settings
-- that it tells as enough is that of each schedule with a certificate. No schedule has fewer
-- changes of the switch than it tells as the fewest.
use Rattle.std.specs.Prelude.{ℕ, ◌≡◌, ◌<◌, ◌≤◌, ◌+◌, List, Option, Some, length, slice_get}
use Rattle.batch.specs.declared.transfer.Transfer.{Transfer}
use Rattle.batch.specs.Batches.{IsBatch}
use Rattle.link_graph.specs.declared.link.End.{End}
use Rattle.link_graph.specs.Schedules.{IsScheduleOf}
use Rattle.link_graph.specs.Certificates.{Naming, IsCertified}
use Rattle.steady_schedule.specs.Changes.{changes}
use Rattle.schedule_picture.specs.declared.layout.TheConstants.{CELL_WIDTH, CELL_HEIGHT}
use Rattle.schedule_picture.specs.declared.shown.ShownSettings.{ShownSettings}
use Rattle.schedule_picture.specs.declared.verdict.Verdict.{Verdict}
use Rattle.schedule_picture.specs.Verdicts.{IsVerdict}
use Rattle.schedule_picture.specs.Cells.{cell_left, cell_top}

-- the transfer stands at position i of the setting of column j
pub record IsDrawnAt (batch : List Transfer) (settings : List (List ℕ)) (shown : ShownSettings)
    (j i : ℕ)
    (x : Transfer) : Type 0 where
  pub is_shown : j < shown.count
  pub setting : List ℕ
  pub number : ℕ
  pub in_schedule : slice_get settings (shown.first + j) ≡ Some setting
  pub in_setting : slice_get setting i ≡ Some number
  pub in_batch : slice_get batch number ≡ Some x

-- the cell at an end of a transfer in column j has a part in common with that of another in
-- column l
pub record CellsOverlap (batch : List Transfer) (j : ℕ) (x : Transfer) (e : End) (l : ℕ)
    (y : Transfer)
    (f : End) : Type 0 where
  pub not_right : cell_left j < cell_left l + CELL_WIDTH
  pub not_left : cell_left l < cell_left j + CELL_WIDTH
  pub not_below : cell_top batch j x e < cell_top batch l y f + CELL_HEIGHT
  pub not_above : cell_top batch l y f < cell_top batch j x e + CELL_HEIGHT

-- two cells of the picture of a schedule overlap only where they are one
abbrev pub NothingOverlaps : Type 0
NothingOverlaps =
    (batch : List Transfer) (settings : List (List ℕ)) (shown : ShownSettings)
    → IsBatch batch → IsScheduleOf batch settings
    → (j i : ℕ) (x : Transfer) (e : End) (l k : ℕ) (y : Transfer) (f : End)
    → IsDrawnAt batch settings shown j i x → IsDrawnAt batch settings shown l k y
    → CellsOverlap batch j x e l y f → (j ≡ l) × (i ≡ k) × (e ≡ f)

-- no schedule of the batch has fewer settings than this, and one that has a certificate has just so
-- many
pub record AreFewest (batch : List Transfer) (fewest : ℕ) : Type 0 where
  pub least : (settings : List (List ℕ)) → IsScheduleOf batch settings → fewest ≤ length settings
  pub certified : (settings : List (List ℕ)) (named : Naming) → IsCertified batch settings named
      → length settings ≡ fewest

-- so it is with what a verdict tells
abbrev pub VerdictTellsFewest : Type 0
VerdictTellsFewest =
    (batch : List Transfer) (settings : List (List ℕ)) (certificate : Option Naming)
    (verdict : Verdict) → IsVerdict batch settings certificate verdict
    → AreFewest batch verdict.fewest

-- each schedule of the batch changes the switch at least as often as a verdict tells partners, and
-- one with as many settings as the verdict's at least as often as it tells for these
abbrev pub TellsNeededChanges : Type 0
TellsNeededChanges =
    (batch : List Transfer) (settings other : List (List ℕ)) (certificate : Option Naming)
    (verdict : Verdict) → IsBatch batch → IsVerdict batch settings certificate verdict
    → IsScheduleOf batch other
    → (verdict.partners ≤ changes batch other)
    × (length other ≡ length settings → verdict.least ≤ changes batch other)
