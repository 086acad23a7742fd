use Rattle.std.proofs.Common.{◌≡◌, count_by, take}
use Rattle.module_orders.specs.Orders.{is_told}
use Rattle.module_orders.proofs.writing.count_told.Given as goal

abbrev pub invariant-loop-module : goal.invariant-loop-module
invariant-loop-module l = l.count ≡ count_by (is_told l.only) (take l.module-index l.modules)
