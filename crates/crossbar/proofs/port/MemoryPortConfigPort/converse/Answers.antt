use Rattle.std.proofs.Common.{rules}
use Rattle.crossbar.proofs.port.MemoryPortConfigPort.converse.Goals as goal

pub returns-clause-never_fails : goal.returns-clause-never_fails
returns-clause-never_fails c = search rules
