use Rattle.std.proofs.Common.{ℕ, ◌*◌, ◌≤◌}
use Rattle.steady_schedule.specs.Prices.{NoneCostsMore}
use Rattle.steady_schedule.specs.Waiting.{sum_below}
use Rattle.steady_schedule.proofs.pricing.Needs.costs_of.Given as goal

abbrev pub invariant-loop-three : goal.invariant-loop-three
invariant-loop-three l = record {
  low : l.total ≤ l.three * 536870912;
  cheapest : (most : ℕ → ℕ → ℕ) → NoneCostsMore l.self.remaining.counts l.self.settings l.prices l.self.top most → l.total ≤ sum_below l.three (most l.zero);
}
