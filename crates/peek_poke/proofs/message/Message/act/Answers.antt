use Rattle.std.proofs.Common.{rules}
use Rattle.peek_poke.proofs.message.Message.act.Goals as goal

pub returns-in_ok-word-in-Peek : goal.returns-in_ok-word-in-Peek
returns-in_ok-word-in-Peek g c = search rules
