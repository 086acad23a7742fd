use Rattle.std.proofs.Common.{rules}
use Rattle.module_memory.proofs.rack.Rack.shape.Goals as goal

pub returns-clause-value : goal.returns-clause-value
returns-clause-value c = search rules
