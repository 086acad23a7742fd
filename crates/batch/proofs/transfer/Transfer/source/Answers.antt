use Rattle.std.proofs.Common.{rules}
use Rattle.batch.proofs.transfer.Transfer.source.Goals as goal

pub returns-in-Pull : goal.returns-in-Pull
returns-in-Pull c = search rules
