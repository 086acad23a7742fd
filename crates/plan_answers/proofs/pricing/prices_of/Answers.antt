use Rattle.std.proofs.Common.{arith}
use Rattle.schedule_picture.proofs.Fewest.{most_used}
use Rattle.plan_answers.proofs.pricing.prices_of.Goals as goal

pub best_price_table-requires-clause-most : goal.best_price_table-requires-clause-most
best_price_table-requires-clause-most c link =
    let most = c.most_uses.ensures in
    omega (arith, most_used c.in_ok-graph.graph most.0 link most.1, most.2, c.if-settings-most_uses.false)
