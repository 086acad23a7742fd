use Rattle.std.proofs.Common.{◌≡◌, length, take}
use Rattle.batch.specs.Written.{flag_of}
use Rattle.batch.specs.declared.limits.TheConstants.{MAX_MODULES}
use Rattle.module_memory.specs.Core.{setting_of}
use Rattle.module_orders.specs.Orders.{orders_over}
use Rattle.module_orders.proofs.Telling.{TellsMore}
use Rattle.module_orders.proofs.rack.push_orders.Given as goal

abbrev pub invariant-loop-t : goal.invariant-loop-t
invariant-loop-t l = record {
  all : length l.modules.items ≡ MAX_MODULES;
  told : TellsMore l.fn.modules.items l.modules.items (orders_over (flag_of l.changed.flags) l.setting l.end (setting_of l.batch (take l.t-index l.numbers)));
}
