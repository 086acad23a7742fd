use Rattle.std.proofs.Common.{◌≡◌, ◌++◌, take, string_bytes}
use Rattle.std.specs.Prelude.{filter}
use Rattle.std.specs.List.{flat_map}
use Rattle.link_graph.specs.ScheduleText.{text_of}
use Rattle.module_orders.specs.Orders.{is_told}
use Rattle.module_orders.specs.OrdersText.{told_lines}
use Rattle.module_orders.proofs.writing.rack_text.Given as goal

abbrev pub invariant-loop-module : goal.invariant-loop-module
invariant-loop-module l = string_bytes l.text ≡ string_bytes l.initial.text
    ++ text_of (flat_map told_lines (filter (is_told l.only) (take l.module-index l.modules)))
