use Rattle.std.proofs.Common.{rules}
use Rattle.alternating_path.proofs.coloured.ColouredPartialEq.eq.Goals as goal

pub returns-then-eq-clause-value : goal.returns-then-eq-clause-value
returns-then-eq-clause-value c = search rules

pub returns-then-eq-clause-equal : goal.returns-then-eq-clause-equal
returns-then-eq-clause-equal c = search rules
