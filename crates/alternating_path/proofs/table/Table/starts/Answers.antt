use Rattle.std.proofs.Common.{◌≡◌, ◌+◌, ◌-◌, ◌*◌, arith}
use Rattle.link_graph.specs.declared.limits.TheConstants.{LINKS}
use Rattle.alternating_path.specs.Cells.{StartBelow}
use Rattle.alternating_path.proofs.Smallest.{starts_are}
use Rattle.alternating_path.proofs.table.Table.starts.Goals as goal

pub returns-clause-starts : goal.returns-clause-starts
returns-clause-starts c =
    let s = c.self.inside in
    let width : c.args.colour * LINKS + c.args.modules - c.args.colour * LINKS ≡ c.args.modules = omega arith in
    let all : StartBelow s.graph.now c.args.modules = rw (← c.self.view_is) at c.requires.all in
    rw (width, c.as_slice-cells.ensures.value, ← c.self.view_is) (starts_are _ s.cells.items c.args.colour c.self.invariant c.args.modules c.requires.few all)
