use Rattle.std.proofs.Common.{rules}
use Rattle.peek_poke.proofs.window.Window.into_rack.Goals as goal

pub returns : goal.returns
returns c = search rules
