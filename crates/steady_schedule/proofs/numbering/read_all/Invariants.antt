use Rattle.std.proofs.Common.{drop}
use Rattle.link_graph.specs.Schedules.{lists_of}
use Rattle.steady_schedule.specs.Slots.{AreReadInto}
use Rattle.steady_schedule.specs.Waiting.{ArePairCounts}
use Rattle.steady_schedule.proofs.numbering.read_all.Given as goal

abbrev pub invariant-loop-t : goal.invariant-loop-t
invariant-loop-t l = record {
  counted : ArePairCounts (drop l.t l.graph) l.remaining;
  read : AreReadInto l.graph l.places.totals.now l.slots l.settings l.t (lists_of l.lists.items);
}
