use Rattle.std.proofs.Common.{rules}
use Rattle.euler_split.proofs.walking.halve.Goals as goal

pub loop-start-init : goal.loop-start-init
loop-start-init c = search rules
