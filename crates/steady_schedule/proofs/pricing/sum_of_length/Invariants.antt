use Rattle.std.proofs.Common.{◌≡◌, ◌*◌, ◌≤◌}
use Rattle.steady_schedule.specs.Prices.{price_at}
use Rattle.steady_schedule.specs.Waiting.{sum_below}
use Rattle.steady_schedule.proofs.pricing.sum_of_length.Given as goal

abbrev pub invariant-loop-link : goal.invariant-loop-link
invariant-loop-link l = record {
  sum : l.sum ≡ sum_below l.link (λ i. price_at l.prices i l.row);
  low : l.sum ≤ l.link * 4294967296;
}
