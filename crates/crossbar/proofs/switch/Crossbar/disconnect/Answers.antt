use Rattle.std.proofs.Common.{rules}
use Rattle.crossbar.proofs.Latches.{sources_disconnect}
use Rattle.crossbar.proofs.switch.Crossbar.disconnect.Goals as goal

pub returns : goal.returns
returns c = search (rules, sources_disconnect)
