use Rattle.std.proofs.Common.{rules}
use Rattle.peek_poke.proofs.fault.AnswerFaultFromStoreFault.from.Goals as goal

pub returns-in-Misaligned : goal.returns-in-Misaligned
returns-in-Misaligned c = search rules
