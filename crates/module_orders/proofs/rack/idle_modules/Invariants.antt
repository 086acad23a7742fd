use Rattle.std.proofs.Common.{◌≡◌, [], map}
use Rattle.std.specs.List.{range_with_len}
use Rattle.module_orders.specs.Orders.{module_told}
use Rattle.module_orders.proofs.rack.idle_modules.Given as goal

abbrev pub invariant-loop-module : goal.invariant-loop-module
invariant-loop-module l = l.modules.items ≡ map (λ m. module_told m []) (range_with_len 0 l.«module»)
