use Rattle.std.proofs.Common.{rules}
use Rattle.alternating_path.proofs.Shown.{cells_proper}
use Rattle.alternating_path.proofs.table.Table.colours.Goals as goal

pub returns-clause-colours : goal.returns-clause-colours
returns-clause-colours c = search rules

pub returns-clause-proper : goal.returns-clause-proper
returns-clause-proper c = rw (← c.self.view_is) (cells_proper _ _ _ _ c.self.invariant)
