use Rattle.std.proofs.Common.{rules}
use Rattle.link_graph.proofs.settings.SettingsIterIterator.next.Goals as goal

pub returns-clause-steps : goal.returns-clause-steps
returns-clause-steps c = search rules
