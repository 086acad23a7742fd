use Rattle.std.proofs.Common.{rules}
use Rattle.schedule_certificate.proofs.planning.certificate_of.Goals as goal

pub returns-clause-named : goal.returns-clause-named
returns-clause-named c = search rules

pub unwrap-requires : goal.unwrap-requires
unwrap-requires c = search rules
