use Rattle.alternating_path.proofs.Path.{narrow}
use Rattle.alternating_path.proofs.table.Table.is_narrow.Goals as goal

pub returns : goal.returns
returns c = rw (← c.self.view_is) (narrow (record { batch = _; colours = _; colour = _; inserted = c.self.inside.inserted }) c.self.inside.cells.items
    c.args.colour c.self.invariant)
