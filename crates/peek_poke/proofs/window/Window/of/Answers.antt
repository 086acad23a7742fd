use Rattle.std.proofs.Common.{rules}
use Rattle.peek_poke.proofs.window.Window.of.Goals as goal

pub returns-then-number-modules : goal.returns-then-number-modules
returns-then-number-modules c = search rules

pub invariant_of-result : goal.invariant_of-result
invariant_of-result c = search rules
