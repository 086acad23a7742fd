use Rattle.std.proofs.Common.{rules}
use Rattle.alternating_path.proofs.table.Table.inserted.Goals as goal

pub returns : goal.returns
returns c = search rules
