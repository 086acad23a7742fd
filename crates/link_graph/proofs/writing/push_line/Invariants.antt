use Rattle.std.proofs.Common.{◌≡◌, ◌++◌, take}
use Rattle.link_graph.specs.ScheduleText.{numbers}
use Rattle.link_graph.proofs.writing.push_line.Given as goal

abbrev pub invariant-loop-t : goal.invariant-loop-t
invariant-loop-t l = l.text.items ≡ l.initial.text.items ++ numbers (take l.t-index l.transfers)
