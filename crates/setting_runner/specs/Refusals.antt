-- Why a run is refused.
use Rattle.std.specs.Prelude.{List}
use Rattle.batch.specs.ShapeView.{ShapeView}
use Rattle.batch.specs.Overlap.{IsApart, IsFirstOverlap}
use Rattle.batch.specs.declared.transfer.Transfer.{Transfer}
use Rattle.setting_runner.specs.Runs.{IsMisfit, RunNeedsMemory}
use Rattle.setting_runner.specs.declared.outcome.RunRefusal.{RunRefusal}
use Rattle.setting_runner.specs.declared.outcome.RunRefusal.TheVariants.{NoMemory, Overlap, Shape}

-- the cause of a refusal is there, and none of those that are tested before it
abbrev pub IsRefusal : ShapeView → List Transfer → RunRefusal → Type 0
IsRefusal shape batch (Overlap i j) = IsFirstOverlap batch i j
IsRefusal shape batch Shape = IsApart batch × IsMisfit shape batch
IsRefusal shape batch NoMemory = RunNeedsMemory shape batch
