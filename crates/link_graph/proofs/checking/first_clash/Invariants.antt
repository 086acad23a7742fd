use Rattle.std.proofs.Common.{All, take}
use Rattle.link_graph.specs.Uses.{IsMatching}
use Rattle.link_graph.specs.Schedules.{lists_of}
use Rattle.link_graph.proofs.checking.first_clash.Given as goal

abbrev pub invariant-loop-k : goal.invariant-loop-k
invariant-loop-k l = All (IsMatching l.batch) (take l.k (lists_of l.lists))
