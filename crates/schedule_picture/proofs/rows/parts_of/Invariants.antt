use Rattle.std.proofs.Common.{◌≡◌, length, take}
use Rattle.batch.specs.declared.limits.TheConstants.{MAX_MODULES}
use Rattle.schedule_picture.specs.Places.{TakePart}
use Rattle.schedule_picture.proofs.rows.parts_of.Given as goal

abbrev pub invariant-loop-transfer : goal.invariant-loop-transfer
invariant-loop-transfer l = record {
  size : length l.parts ≡ MAX_MODULES;
  parts : TakePart (take l.transfer-index l.batch) l.parts;
}
