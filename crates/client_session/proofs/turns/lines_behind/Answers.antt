use Rattle.std.proofs.Common.{rules}
use Rattle.client_session.proofs.turns.lines_behind.Goals as goal

pub returns-in_default : goal.returns-in_default
returns-in_default c = search rules
