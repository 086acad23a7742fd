use Rattle.steady_schedule.proofs.Matchings.{has_low}
use Rattle.steady_schedule.proofs.heaviest.heaviest_matching.Goals as goal

pub update_prices-requires-clause-partners : goal.update_prices-requires-clause-partners
update_prices-requires-clause-partners c x y joined =
    let m = c.loop-zero.matching in
    has_low m.zero y x m.matched.sized ((m.matched.each_other y x).1 joined)
