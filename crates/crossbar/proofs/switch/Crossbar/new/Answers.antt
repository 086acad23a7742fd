use Rattle.std.proofs.Common.{rules}
use Rattle.crossbar.proofs.switch.Crossbar.new.Goals as goal

pub returns : goal.returns
returns c = search rules
