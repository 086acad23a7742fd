use Rattle.module_memory.proofs.BayLaws.{lent_block, lent_block_gone, other_rest, set_one_word, stay_whole}
use Rattle.module_memory.proofs.laws.bays.Goals as goal

pub returns-clause-lent : goal.returns-clause-lent
returns-clause-lent c = lent_block

pub returns-clause-gone : goal.returns-clause-gone
returns-clause-gone c = lent_block_gone

pub returns-clause-rest : goal.returns-clause-rest
returns-clause-rest c = other_rest

pub returns-clause-set : goal.returns-clause-set
returns-clause-set c = set_one_word

pub returns-clause-stay_whole : goal.returns-clause-stay_whole
returns-clause-stay_whole c = stay_whole
