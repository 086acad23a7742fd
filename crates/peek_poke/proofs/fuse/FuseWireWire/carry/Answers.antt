use Rattle.std.proofs.Common.{rules}
use Rattle.peek_poke.proofs.fuse.FuseWireWire.carry.Goals as goal

pub returns-clause-remaining : goal.returns-clause-remaining
returns-clause-remaining c = search rules

pub returns-clause-added : goal.returns-clause-added
returns-clause-added c = search rules
