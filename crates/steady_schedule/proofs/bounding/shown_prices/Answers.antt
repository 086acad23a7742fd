use Rattle.steady_schedule.proofs.Prices.{most_wait}
use Rattle.steady_schedule.proofs.bounding.shown_prices.Goals as goal

pub invariant_of-needs-clause-most : goal.invariant_of-needs-clause-most
invariant_of-needs-clause-most c = most_wait c.args.graph.now c.add_all.new.self.counts c.args.settings c.len.ensures.batch c.add_all.ensures c.requires.most
