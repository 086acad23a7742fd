use Rattle.steady_schedule.proofs.Matchings.{joined_matched}
use Rattle.steady_schedule.proofs.matching.join.Goals as goal

pub returns-clause-matched : goal.returns-clause-matched
returns-clause-matched c = joined_matched c.args.of.now c.args.back.now c.args.x c.args.y c.requires.matched c.requires.x_in c.requires.y_in c.requires.x_free
    c.requires.y_free
