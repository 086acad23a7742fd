use Rattle.std.proofs.Common.{◌≡◌, length}
use Rattle.link_graph.specs.Schedules.{lists_of}
use Rattle.link_graph.proofs.CountedLines.{AreListed}
use Rattle.link_graph.proofs.reading.settings.Given as goal

abbrev pub invariant-loop-k : goal.invariant-loop-k
invariant-loop-k l = record { counted : length l.lists.items ≡ l.k; read : AreListed l.text (lists_of l.lists.items) l.rest }
