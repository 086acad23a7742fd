use Rattle.std.proofs.Common.{rules}
use Rattle.crossbar.proofs.port.MemoryPort.crossbar.Goals as goal

pub returns : goal.returns
returns c = search rules
