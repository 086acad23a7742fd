use Rattle.std.proofs.Common.{ℕ, ◌+◌, ◌*◌, ◌≤◌}
use Rattle.batch.specs.declared.limits.TheConstants.{MAX_MODULES}
use Rattle.steady_schedule.specs.Prices.{NoneCostsMore}
use Rattle.steady_schedule.specs.Waiting.{sum_below}
use Rattle.steady_schedule.proofs.pricing.Needs.shown_by.Given as goal

abbrev pub invariant-loop-zero : goal.invariant-loop-zero
invariant-loop-zero l = record {
  low : l.total ≤ l.zero * ((MAX_MODULES + 1) * 536870912);
  cheapest : (most : ℕ → ℕ → ℕ) → NoneCostsMore l.self.remaining.counts l.self.settings l.prices l.self.top most
      → l.total ≤ sum_below l.zero (λ u. sum_below (MAX_MODULES + 1) (most u));
}
