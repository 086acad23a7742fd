use Rattle.std.proofs.Common.{◌≡◌, ◌++◌, map, take, string_bytes}
use Rattle.link_graph.specs.ScheduleText.{text_of}
use Rattle.module_orders.specs.OrdersText.{order_line}
use Rattle.module_orders.proofs.writing.push_orders.Given as goal

abbrev pub invariant-loop-order : goal.invariant-loop-order
invariant-loop-order l = string_bytes l.text ≡ string_bytes l.fn.text ++ text_of (map order_line (take l.order-index l.orders))
