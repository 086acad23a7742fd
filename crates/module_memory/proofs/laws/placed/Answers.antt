use Rattle.module_memory.proofs.CoreLaw.{one_moved, one_placed}
use Rattle.module_memory.proofs.Marking.{one_marked}
use Rattle.module_memory.proofs.laws.placed.Goals as goal

pub returns-clause-one_marked : goal.returns-clause-one_marked
returns-clause-one_marked c = one_marked

pub returns-clause-one_placed : goal.returns-clause-one_placed
returns-clause-one_placed c = one_placed

pub returns-clause-one_moved : goal.returns-clause-one_moved
returns-clause-one_moved c = one_moved
