use Rattle.std.proofs.Common.{rules}
use Rattle.peek_poke.proofs.fuse.FuseWiresWireMaker.line.Goals as goal

pub returns-then-transfer-self-clause-sure : goal.returns-then-transfer-self-clause-sure
returns-then-transfer-self-clause-sure c = search rules

pub returns-else-transfer-self-clause-sure : goal.returns-else-transfer-self-clause-sure
returns-else-transfer-self-clause-sure c = search rules

pub returns-then-transfer-self-clause-fused : goal.returns-then-transfer-self-clause-fused
returns-then-transfer-self-clause-fused c = search rules

pub returns-else-transfer-self-clause-fused : goal.returns-else-transfer-self-clause-fused
returns-else-transfer-self-clause-fused c = search rules
