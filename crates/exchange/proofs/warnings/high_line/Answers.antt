use Rattle.std.proofs.Common.{arith}
use Rattle.exchange.proofs.Forewarned.{told_high}
use Rattle.exchange.proofs.warnings.high_line.Goals as goal

pub returns-clause-high : goal.returns-clause-high
returns-clause-high c = told_high c.file_line.result c.args.picture.now c.in_ok-height.height c.in_ok-height.ensures (omega arith)
