use Rattle.std.proofs.Common.{ℕ, ◌<◌}
use Rattle.batch.specs.Places.{HasPlace}
use Rattle.batch.specs.Overlap.{source_at, destination_at}
use Rattle.setting_runner.proofs.ready.fits_in.Given as goal

abbrev pub invariant-loop-transfer : goal.invariant-loop-transfer
invariant-loop-transfer l = (i : ℕ) → i < l.transfer-index → HasPlace l.shape (source_at l.fn.batch i) × HasPlace l.shape (destination_at l.fn.batch i)
