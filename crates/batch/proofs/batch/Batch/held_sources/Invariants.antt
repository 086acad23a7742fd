use Rattle.std.proofs.Common.{◌≡◌, length}
use Rattle.batch.specs.declared.limits.TheConstants.{MAX_RACK_BLOCKS}
use Rattle.batch.proofs.HeldSources.{AreHeldBelow}
use Rattle.batch.proofs.batch.Batch.held_sources.Given as goal

abbrev pub invariant-loop-transfer : goal.invariant-loop-transfer
invariant-loop-transfer l = record {
  size : length l.unheld ≡ MAX_RACK_BLOCKS;
  below : AreHeldBelow l.transfers l.transfer-index l.unheld l.held.items;
}
