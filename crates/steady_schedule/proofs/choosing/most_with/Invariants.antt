use Rattle.steady_schedule.proofs.Reaches.{MostSoFar}
use Rattle.steady_schedule.proofs.choosing.most_with.Given as goal

abbrev pub invariant-others : goal.invariant-others
invariant-others l = MostSoFar l.remaining.counts l.end l.link l.others l.rest l.most

abbrev pub decreases-others : goal.decreases-others
decreases-others l = l.rest
