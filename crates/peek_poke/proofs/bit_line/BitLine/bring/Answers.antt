use Rattle.std.proofs.Common.{rules}
use Rattle.peek_poke.proofs.bit_line.BitLine.bring.Goals as goal

pub returns-in-Byte : goal.returns-in-Byte
returns-in-Byte c = search rules
