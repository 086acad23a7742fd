use Rattle.board_wiring.proofs.OneReading.{one_wiring, apart, one_fault}
use Rattle.board_wiring.proofs.laws.one_reading.Goals as goal

pub returns-clause-wiring : goal.returns-clause-wiring
returns-clause-wiring c = one_wiring

pub returns-clause-apart : goal.returns-clause-apart
returns-clause-apart c = apart

pub returns-clause-line : goal.returns-clause-line
returns-clause-line c = one_fault
