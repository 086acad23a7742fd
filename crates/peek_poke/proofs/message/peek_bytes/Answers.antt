use Rattle.std.proofs.Common.{rules}
use Rattle.peek_poke.proofs.message.peek_bytes.Goals as goal

pub returns : goal.returns
returns c = search rules
