use Rattle.peek_poke.proofs.BlockLaws.{words_are_read, words_are_written, others_are_outside}
use Rattle.peek_poke.proofs.laws.blocks.Goals as goal

pub returns-clause-read : goal.returns-clause-read
returns-clause-read c = words_are_read

pub returns-clause-written : goal.returns-clause-written
returns-clause-written c = words_are_written

pub returns-clause-others : goal.returns-clause-others
returns-clause-others c = others_are_outside
