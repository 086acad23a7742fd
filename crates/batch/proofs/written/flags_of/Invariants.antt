use Rattle.std.proofs.Common.{◌≡◌, length}
use Rattle.batch.specs.declared.limits.TheConstants.{MAX_RACK_BLOCKS}
use Rattle.batch.proofs.Flags.{AreUpBelow}
use Rattle.batch.proofs.written.flags_of.Given as goal

abbrev pub invariant-loop-transfer : goal.invariant-loop-transfer
invariant-loop-transfer l = record {
  size : length l.written ≡ MAX_RACK_BLOCKS;
  up : AreUpBelow l.transfers l.transfer-index l.written;
}
