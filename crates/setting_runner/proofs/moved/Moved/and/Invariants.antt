use Rattle.std.proofs.Common.{◌≡◌, ◌++◌, take}
use Rattle.setting_runner.proofs.moved.Moved.and.Given as goal

abbrev pub invariant-loop-entry : goal.invariant-loop-entry
invariant-loop-entry l = l.all ≡ l.fn.self ++ take l.entry-index l.fn.others
