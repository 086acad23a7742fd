use Rattle.std.proofs.Common.{rules}
use Rattle.peek_poke.proofs.answerer.Answerer.new.Goals as goal

pub returns : goal.returns
returns c = search rules
