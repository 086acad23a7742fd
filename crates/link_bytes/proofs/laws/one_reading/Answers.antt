use Rattle.link_bytes.proofs.Lines.{one_reading}
use Rattle.link_bytes.proofs.BitSteps.{some_reading}
use Rattle.link_bytes.proofs.laws.one_reading.Goals as goal

pub returns-clause-some : goal.returns-clause-some
returns-clause-some c = some_reading

pub returns-clause-no_other : goal.returns-clause-no_other
returns-clause-no_other c = one_reading
