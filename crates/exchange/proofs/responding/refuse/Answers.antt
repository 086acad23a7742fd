use Rattle.std.proofs.Common.{refl}
use Rattle.exchange.proofs.responding.refuse.Goals as goal

pub returns-clause-printed : goal.returns-clause-printed
returns-clause-printed g c = record { text = rw (c.as_bytes.ensures.bytes, c.line.ensures) at c.in_ok-write_bytes.ensures.went; status = refl }
