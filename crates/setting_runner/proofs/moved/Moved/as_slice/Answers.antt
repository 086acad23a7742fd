use Rattle.std.proofs.Common.{rules}
use Rattle.setting_runner.proofs.moved.Moved.as_slice.Goals as goal

pub returns-clause-entries : goal.returns-clause-entries
returns-clause-entries c = search rules
