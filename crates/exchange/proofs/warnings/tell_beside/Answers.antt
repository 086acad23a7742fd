use Rattle.std.proofs.Common.{inr}
use Rattle.exchange.proofs.warnings.tell_beside.Goals as goal

pub returns-in-Some : goal.returns-in-Some
returns-in-Some g c = inr (c.in-Some.line, c.in-Some.is, rw (c.as_bytes.ensures.value, c.as_str.ensures.value) at c.tell_line.ensures)
