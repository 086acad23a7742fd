use Rattle.std.proofs.Common.{rules}
use Rattle.setting_runner.proofs.bits.line_bits.Goals as goal

pub returns : goal.returns
returns c = search rules
