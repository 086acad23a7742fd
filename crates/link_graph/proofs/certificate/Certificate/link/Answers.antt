use Rattle.std.proofs.Common.{rules}
use Rattle.link_graph.proofs.certificate.Certificate.link.Goals as goal

pub returns-in-Some-clause-value : goal.returns-in-Some-clause-value
returns-in-Some-clause-value c = search rules
