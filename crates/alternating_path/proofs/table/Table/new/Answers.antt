use Rattle.std.proofs.Common.{rules}
use Rattle.alternating_path.proofs.table.Table.new.Goals as goal

pub empty-requires : goal.empty-requires
empty-requires c = search (rules, c.in_ok-cells.ensures)
