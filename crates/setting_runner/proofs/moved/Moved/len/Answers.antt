use Rattle.std.proofs.Common.{rules}
use Rattle.setting_runner.proofs.moved.Moved.len.Goals as goal

pub returns-clause-number : goal.returns-clause-number
returns-clause-number c = search rules
