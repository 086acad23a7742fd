use Rattle.std.proofs.Common.{ℕ, ◌+◌, ◌-◌, ◌*◌, ◌<◌, ◌≤◌, slice_index}
use Rattle.steady_schedule.proofs.pricing.CoverCosts.cheapest.Given as goal

abbrev pub invariant-loop-k : goal.invariant-loop-k
invariant-loop-k l = record {
  low : l.best ≤ l.number * 131072;
  one : l.number ≤ l.top → l.best ≤ slice_index l.self.price l.number;
  two : (i : ℕ) → 0 < i → i < l.k → l.best ≤ slice_index l.self.costs i + slice_index l.self.costs (l.number - i);
}
