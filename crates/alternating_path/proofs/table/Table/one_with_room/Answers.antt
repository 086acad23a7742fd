use Rattle.std.proofs.Common.{rules}
use Rattle.alternating_path.proofs.MoreClasses.{first_placed_if}
use Rattle.alternating_path.proofs.table.Table.one_with_room.Goals as goal

pub empty-requires : goal.empty-requires
empty-requires c = search rules

pub returns-clause-placed : goal.returns-clause-placed
returns-clause-placed c = first_placed_if c.args.graph.now c.args.members.now c.with_class.result (rw c.empty.ensures at c.with_class.ensures.more)
