use Rattle.steady_schedule.proofs.Waiting.{none_told, none_counted}
use Rattle.steady_schedule.proofs.remaining.Remaining.none.Goals as goal

pub invariant_of-result : goal.invariant_of-result
invariant_of-result c = record { told = none_told }

pub returns : goal.returns
returns c = none_counted
