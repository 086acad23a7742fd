use Rattle.std.proofs.Common.{rules}
use Rattle.switch_settings.proofs.pair_list.PairList.as_slice.Goals as goal

pub returns-clause-pairs : goal.returns-clause-pairs
returns-clause-pairs c = search rules
