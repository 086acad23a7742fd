use Rattle.std.proofs.Common.{rules}
use Rattle.client_session.proofs.turns.ends.Goals as goal

pub returns-in-Some-Bye : goal.returns-in-Some-Bye
returns-in-Some-Bye c = search rules
