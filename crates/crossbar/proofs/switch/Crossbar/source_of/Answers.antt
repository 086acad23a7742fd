use Rattle.std.proofs.Common.{rules}
use Rattle.crossbar.proofs.Latches.{source_at}
use Rattle.crossbar.proofs.switch.Crossbar.source_of.Goals as goal

pub returns : goal.returns
returns c = search (rules, source_at)
