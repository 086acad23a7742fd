use Rattle.std.proofs.Common.{◌≡◌, take}
use Rattle.setting_runner.specs.Moves.{all_moved}
use Rattle.setting_runner.proofs.setting.none_moved.Given as goal

abbrev pub invariant-loop-t : goal.invariant-loop-t
invariant-loop-t l = l.moved ≡ all_moved (take l.t-index l.numbers) 0
