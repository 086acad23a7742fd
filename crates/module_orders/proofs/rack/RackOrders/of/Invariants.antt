use Rattle.std.proofs.Common.{◌≡◌, length, take}
use Rattle.std.specs.List.{concat}
use Rattle.batch.specs.declared.limits.TheConstants.{MAX_MODULES}
use Rattle.module_memory.specs.Core.{setting_of}
use Rattle.module_orders.specs.Flags.{AreChanged}
use Rattle.module_orders.specs.Orders.{all_modules, orders_before}
use Rattle.module_orders.proofs.rack.RackOrders.of.Given as goal

abbrev pub invariant-loop-setting : goal.invariant-loop-setting
invariant-loop-setting l = record {
  all : length l.modules.items ≡ MAX_MODULES;
  told : l.modules.items ≡ all_modules (orders_before l.batch l.schedule l.setting);
  changed : AreChanged (setting_of l.batch (concat (take l.setting l.schedule))) l.changed.flags;
}
