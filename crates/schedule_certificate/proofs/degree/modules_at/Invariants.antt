use Rattle.std.proofs.Common.{ℕ, ◌<◌, length, get_or}
use Rattle.batch.specs.declared.transfer.Transfer.{Transfer}
use Rattle.link_graph.specs.Counts.{module_at}
use Rattle.schedule_certificate.proofs.degree.modules_at.Given as goal

abbrev pub invariant-loop-module : goal.invariant-loop-module
invariant-loop-module l = (t : ℕ) (d : Transfer) → t < length l.graph → module_at l.end (get_or l.graph t d) < l.«module» → module_at l.end (get_or l.graph t d)
    < l.count
