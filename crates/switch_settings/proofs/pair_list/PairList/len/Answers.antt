use Rattle.std.proofs.Common.{rules}
use Rattle.switch_settings.proofs.pair_list.PairList.len.Goals as goal

pub returns-clause-number : goal.returns-clause-number
returns-clause-number c = search rules
