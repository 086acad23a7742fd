use Rattle.std.proofs.Common.{◌≡◌, ◌++◌, List, length, take}
use Rattle.batch.specs.declared.transfer.Transfer.{Transfer}
use Rattle.module_memory.specs.Core.{setting_of}
use Rattle.module_orders.specs.Flags.{AreChanged}
use Rattle.batch.specs.declared.limits.TheConstants.{MAX_RACK_BLOCKS}
use Rattle.module_orders.proofs.changed.ChangedBlocks.add.Given as goal

abbrev pub invariant-loop-t : goal.invariant-loop-t
invariant-loop-t l = record {
  size : length l.self.flags ≡ MAX_RACK_BLOCKS;
  changed : (before : List Transfer) → AreChanged before l.fn.self.flags → AreChanged (before ++ setting_of l.batch (take l.t-index l.numbers)) l.self.flags;
}
