use Rattle.std.proofs.Common.{rules}
use Rattle.peek_poke.proofs.fuse.FuseLineWire.carry.Goals as goal

pub returns-in-Fused-clause-arrived : goal.returns-in-Fused-clause-arrived
returns-in-Fused-clause-arrived c = search rules

pub returns-in-Fused-clause-added : goal.returns-in-Fused-clause-added
returns-in-Fused-clause-added c = search rules
