use Rattle.std.proofs.Common.{rules}
use Rattle.schedule_certificate.proofs.planned.PlannedPartialEq.eq.Goals as goal

pub returns-then-eq-2-clause-value : goal.returns-then-eq-2-clause-value
returns-then-eq-2-clause-value c = search rules

pub returns-then-eq-2-clause-equal : goal.returns-then-eq-2-clause-equal
returns-then-eq-2-clause-equal c = search rules
