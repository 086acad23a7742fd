use Rattle.steady_schedule.specs.Prices.{ShowChanges}
use Rattle.steady_schedule.proofs.pricing.Needs.search.Given as goal

abbrev pub invariant-loop-round : goal.invariant-loop-round
invariant-loop-round l = record {
  shown : ShowChanges l.self.graph.now l.self.settings l.best l.self.top l.most;
}
