use Rattle.std.proofs.Common.{rules}
use Rattle.peek_poke.proofs.window.WindowWordStore.read_word.Goals as goal

pub returns-in-Ok : goal.returns-in-Ok
returns-in-Ok c = search rules
