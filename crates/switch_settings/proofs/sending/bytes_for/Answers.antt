use Rattle.std.proofs.Common.{rules}
use Rattle.crossbar.specs.Switch.{idle}
use Rattle.switch_settings.proofs.sending.bytes_for.Goals as goal

pub returns-in-None-clause-quiet : goal.returns-in-None-clause-quiet
returns-in-None-clause-quiet c = let t = c.put_setting.ensures.sets idle in record { commands = t.commands; ports = t.ports; whole = t.whole; count = t.quiet }

pub returns-in-Some-clause-bytes : goal.returns-in-Some-clause-bytes
returns-in-Some-clause-bytes c = search rules

pub returns-in-Some-clause-sets : goal.returns-in-Some-clause-sets
returns-in-Some-clause-sets c = search rules
