use Rattle.steady_schedule.proofs.weighing.add_worths.Given as goal

abbrev pub decreases-links : goal.decreases-links
decreases-links l = l.rest
