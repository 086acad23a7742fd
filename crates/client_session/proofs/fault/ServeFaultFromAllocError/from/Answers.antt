use Rattle.std.proofs.Common.{rules}
use Rattle.client_session.proofs.fault.ServeFaultFromAllocError.from.Goals as goal

pub returns : goal.returns
returns c = search rules
