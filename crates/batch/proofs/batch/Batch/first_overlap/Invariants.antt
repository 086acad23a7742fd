use Rattle.std.proofs.Common.{◌≡◌, length}
use Rattle.batch.specs.declared.limits.TheConstants.{MAX_RACK_BLOCKS}
use Rattle.batch.proofs.FirstOverlap.{AreNextWriters, IsFirstFrom}
use Rattle.batch.proofs.batch.Batch.first_overlap.Given as goal

abbrev pub invariant-loop-i : goal.invariant-loop-i
invariant-loop-i l = record {
  size : length l.next_writers ≡ MAX_RACK_BLOCKS;
  next : AreNextWriters l.transfers l.i l.next_writers;
  first : IsFirstFrom l.transfers l.i l.first;
}
