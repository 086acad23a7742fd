use Rattle.std.proofs.Common.{rules}
use Rattle.client_session.proofs.fault.ServeFaultFromInputFault.from.Goals as goal

pub returns-in-Read : goal.returns-in-Read
returns-in-Read c = search rules
