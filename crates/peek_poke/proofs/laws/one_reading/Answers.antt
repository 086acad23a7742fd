use Rattle.peek_poke.proofs.OneText.{one_reading}
use Rattle.peek_poke.proofs.laws.one_reading.Goals as goal

pub returns : goal.returns
returns c = one_reading
