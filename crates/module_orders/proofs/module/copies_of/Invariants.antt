use Rattle.std.proofs.Common.{◌≡◌, length, take}
use Rattle.batch.specs.declared.limits.TheConstants.{MAX_BLOCKS}
use Rattle.module_orders.proofs.Copying.{AreCopied}
use Rattle.module_orders.proofs.module.copies_of.Given as goal

abbrev pub invariant-loop-order : goal.invariant-loop-order
invariant-loop-order l = record {
  size : length l.copied ≡ MAX_BLOCKS;
  copied : AreCopied (take l.order-index l.orders) l.copied;
}
