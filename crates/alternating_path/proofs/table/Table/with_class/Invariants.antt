use Rattle.std.proofs.Common.{◌+◌, ◌*◌, ◌≤◌, take}
use Rattle.link_graph.specs.declared.limits.TheConstants.{LINKS}
use Rattle.alternating_path.specs.Colouring.{IsProperTable, HasClassMore}
use Rattle.alternating_path.proofs.table.Table.with_class.Given as goal

abbrev pub invariant-loop-t : goal.invariant-loop-t
invariant-loop-t l = HasClassMore l.fn.self (take l.t-index l.members) l.table × IsProperTable l.table
    × (l.steps ≤ l.fn.steps + (l.fn.self.colours + 1) * LINKS + l.t-index)
