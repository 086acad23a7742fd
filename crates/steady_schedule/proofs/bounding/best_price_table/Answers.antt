use Rattle.steady_schedule.proofs.Prices.{needed_by}
use Rattle.steady_schedule.proofs.bounding.best_price_table.Goals as goal

pub returns-clause-needed : goal.returns-clause-needed
returns-clause-needed c =
    let found = c.in_ok-priced.priced in
    needed_by c.args.graph.now c.args.settings found.prices.items found.top found.changes c.len.ensures.batch c.in_ok-priced.ensures.show
