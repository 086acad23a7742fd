use Rattle.std.proofs.Common.{ℕ, ◌<◌, ◌≤◌}
use Rattle.link_graph.specs.declared.limits.TheConstants.{LINKS}
use Rattle.steady_schedule.specs.Prices.{SCALE, price_at}
use Rattle.steady_schedule.specs.Waiting.{sum_below}
use Rattle.steady_schedule.proofs.pricing.are_fair.Given as goal

abbrev pub invariant-loop-k : goal.invariant-loop-k
invariant-loop-k l = record {
  each : (i : ℕ) → 0 < i → i < l.k → sum_below LINKS (λ m. price_at l.prices m i) ≤ SCALE;
}
