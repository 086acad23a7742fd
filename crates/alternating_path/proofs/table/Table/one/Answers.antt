use Rattle.alternating_path.proofs.table.Table.one.Goals as goal

pub returns-clause-placed : goal.returns-clause-placed
returns-clause-placed c = c.one_with_room.ensures.placed
