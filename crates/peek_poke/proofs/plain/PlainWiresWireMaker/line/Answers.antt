use Rattle.std.proofs.Common.{rules}
use Rattle.peek_poke.proofs.plain.PlainWiresWireMaker.line.Goals as goal

pub returns-clause-unused : goal.returns-clause-unused
returns-clause-unused c = search rules
