use Rattle.std.proofs.Common.{rules}
use Rattle.crossbar.proofs.switch.Crossbar.apply.Goals as goal

pub returns-in-Join-clause-switch : goal.returns-in-Join-clause-switch
returns-in-Join-clause-switch c = search rules

pub returns-in-Reset-clause-switch : goal.returns-in-Reset-clause-switch
returns-in-Reset-clause-switch c = search rules
