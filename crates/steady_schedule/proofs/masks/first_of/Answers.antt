use Rattle.steady_schedule.proofs.Searching.{both_bits}
use Rattle.steady_schedule.proofs.masks.first_of.Goals as goal

pub returns-then-better-gt0-clause-has : goal.returns-then-better-gt0-clause-has
returns-then-better-gt0-clause-has c = (both_bits c.args.mask c.args.preferred c.first.result c.first.ensures.has).0
