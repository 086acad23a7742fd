use Rattle.batch.proofs.FirstOverlap.{none_overlap, one_first}
use Rattle.batch.proofs.laws.first_overlap.Goals as goal

pub returns-clause-none : goal.returns-clause-none
returns-clause-none c = none_overlap

pub returns-clause-one : goal.returns-clause-one
returns-clause-one c = one_first
