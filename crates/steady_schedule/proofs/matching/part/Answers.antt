use Rattle.steady_schedule.proofs.Matchings.{parted_matched}
use Rattle.steady_schedule.proofs.matching.part.Goals as goal

pub returns-clause-matched : goal.returns-clause-matched
returns-clause-matched c = parted_matched c.args.of.now c.args.back.now c.args.x c.args.y c.requires.matched c.requires.joined
