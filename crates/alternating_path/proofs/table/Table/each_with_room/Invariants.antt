use Rattle.std.proofs.Common.{◌+◌, ◌*◌, ◌≤◌, length}
use Rattle.link_graph.specs.declared.limits.TheConstants.{LINKS}
use Rattle.alternating_path.proofs.Singles.{HoldsEach}
use Rattle.alternating_path.proofs.table.Table.each_with_room.Given as goal

abbrev pub invariant-loop-colour : goal.invariant-loop-colour
invariant-loop-colour l = HoldsEach l.graph l.members l.colour l.table × (l.steps ≤ l.fn.steps + LINKS * length l.members + l.colour)
