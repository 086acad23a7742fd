use Rattle.std.proofs.Common.{◌≡◌, ◌+◌, take}
use Rattle.link_graph.specs.Marks.{members}
use Rattle.schedule_certificate.proofs.Degrees.{AreCounted}
use Rattle.schedule_certificate.proofs.degree.count_degree.Given as goal

abbrev pub invariant-loop-t : goal.invariant-loop-t
invariant-loop-t l = AreCounted (members l.graph (take l.t-index l.part)) l.uses l.degree × (l.steps ≡ l.fn.steps + l.t-index)
