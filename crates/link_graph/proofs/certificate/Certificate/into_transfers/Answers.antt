use Rattle.std.proofs.Common.{rules}
use Rattle.link_graph.proofs.certificate.Certificate.into_transfers.Goals as goal

pub returns-clause-some : goal.returns-clause-some
returns-clause-some c = search rules
