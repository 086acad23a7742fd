use Rattle.std.proofs.Common.{rules}
use Rattle.schedule_certificate.proofs.planned.Planned.reinserted.Goals as goal

pub returns-clause-reinserted : goal.returns-clause-reinserted
returns-clause-reinserted c = search rules
