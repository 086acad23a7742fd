use Rattle.std.proofs.Common.{rules}
use Rattle.crossbar.proofs.chips.Chips.carry_out.Goals as goal

pub returns-in-B : goal.returns-in-B
returns-in-B c = search rules
