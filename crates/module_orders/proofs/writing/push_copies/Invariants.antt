use Rattle.std.proofs.Common.{◌≡◌, ◌++◌, map, string_bytes}
use Rattle.std.specs.Prelude.{filter}
use Rattle.std.specs.List.{range_with_len}
use Rattle.link_graph.specs.ScheduleText.{text_of}
use Rattle.module_orders.specs.Flags.{up_in}
use Rattle.module_orders.specs.OrdersText.{copy_line}
use Rattle.module_orders.proofs.writing.push_copies.Given as goal

abbrev pub invariant-loop-block : goal.invariant-loop-block
invariant-loop-block l = string_bytes l.text ≡ string_bytes l.fn.text ++ text_of (map copy_line (filter (up_in l.copied) (range_with_len 0 l.block-counter)))
