use Rattle.c004_commands.proofs.Readings.{one_reading}
use Rattle.c004_commands.proofs.laws.one_reading.Goals as goal

pub returns : goal.returns
returns c = one_reading
