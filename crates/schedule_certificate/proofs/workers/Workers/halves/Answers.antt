use Rattle.std.proofs.Common.{rules}
use Rattle.schedule_certificate.proofs.workers.Workers.halves.Goals as goal

pub returns-clause-rest_least : goal.returns-clause-rest_least
returns-clause-rest_least c = search rules
