use Rattle.std.proofs.Common.{take}
use Rattle.switch_settings.proofs.Joined.{IsTableOf}
use Rattle.switch_settings.proofs.pair_list.responders_of.Given as goal

abbrev pub invariant-loop-t : goal.invariant-loop-t
invariant-loop-t l = IsTableOf l.batch (take l.t-index l.numbers) l.responders
