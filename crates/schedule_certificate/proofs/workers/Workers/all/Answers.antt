use Rattle.std.proofs.Common.{rules}
use Rattle.schedule_certificate.proofs.workers.Workers.all.Goals as goal

pub returns-clause-least : goal.returns-clause-least
returns-clause-least c = search rules
