use Rattle.std.proofs.Common.{◌≡◌, ◌+◌, length}
use Rattle.link_graph.specs.Schedules.{lists_of}
use Rattle.alternating_path.proofs.FirstSeen.{Partial}
use Rattle.alternating_path.proofs.classes.classes.Given as goal

abbrev pub invariant-loop-t : goal.invariant-loop-t
invariant-loop-t l = record {
  partial : Partial l.colour l.t l.list_of_colour.items (lists_of l.lists.items);
  cost : l.steps ≡ l.fn.steps + l.colours + l.t;
  sized : length l.list_of_colour.items ≡ l.colours;
}
