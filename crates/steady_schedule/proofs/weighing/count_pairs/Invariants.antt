use Rattle.steady_schedule.proofs.weighing.count_pairs.Given as goal

abbrev pub decreases-links : goal.decreases-links
decreases-links l = l.rest
