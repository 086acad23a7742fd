use Rattle.std.proofs.Common.{take}
use Rattle.setting_runner.proofs.Causes.{IsLeastOf}
use Rattle.setting_runner.proofs.setting.least_short.Given as goal

-- the least so far
abbrev pub invariant-loop-entry : goal.invariant-loop-entry
invariant-loop-entry l = IsLeastOf l.words (take l.entry-index l.fn.moved) l.least
