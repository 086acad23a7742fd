use Rattle.move_directions.proofs.OneReading.{one_list, apart, one_fault}
use Rattle.move_directions.proofs.laws.one_reading.Goals as goal

pub returns-clause-moves : goal.returns-clause-moves
returns-clause-moves c = one_list

pub returns-clause-apart : goal.returns-clause-apart
returns-clause-apart c = apart

pub returns-clause-fault : goal.returns-clause-fault
returns-clause-fault c = one_fault
