use Rattle.std.proofs.Common.{rules}
use Rattle.client_session.proofs.command.SessionCommand.read.Goals as goal

pub returns-in-Some-number_after-2 : goal.returns-in-Some-number_after-2
returns-in-Some-number_after-2 c = search rules
