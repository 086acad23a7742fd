use Rattle.batch.specs.declared.limits.TheConstants.{MAX_RACK_BLOCKS}
use Rattle.module_orders.proofs.Changing.{none_changed}
use Rattle.module_orders.proofs.changed.ChangedBlocks.none.Goals as goal

pub returns : goal.returns
returns c = none_changed MAX_RACK_BLOCKS
