use Rattle.std.proofs.Common.{rules}
use Rattle.switch_settings.proofs.pair_list.PairList.iter.Goals as goal

pub returns : goal.returns
returns c = search rules
