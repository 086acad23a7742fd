use Rattle.std.proofs.Common.{rules}
use Rattle.batch.proofs.transfer.Transfer.destination.Goals as goal

pub returns-in-Push : goal.returns-in-Push
returns-in-Push c = search rules
