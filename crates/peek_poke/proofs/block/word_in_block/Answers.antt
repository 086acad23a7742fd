use Rattle.std.proofs.Common.{rules}
use Rattle.peek_poke.proofs.block.word_in_block.Goals as goal

pub returns-clause-word : goal.returns-clause-word
returns-clause-word c = search rules
