use Rattle.std.proofs.Common.{◌≡◌, ℕ, ◌+◌, ◌<◌, get_or, length}
use Rattle.batch.specs.declared.limits.TheConstants.{MAX_TRANSFERS}
use Rattle.steady_schedule.specs.Prices.{price_for}
use Rattle.steady_schedule.proofs.pricing.CoverCosts.take_prices.Given as goal

abbrev pub invariant-loop-k : goal.invariant-loop-k
invariant-loop-k l = record {
  sized : length l.self.price ≡ MAX_TRANSFERS + 1;
  done : (i : ℕ) → 0 < i → i < l.k → get_or l.self.price i 0 ≡ price_for l.prices l.zero l.three i;
}
