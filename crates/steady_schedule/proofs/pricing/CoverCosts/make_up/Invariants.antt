use Rattle.std.proofs.Common.{◌≡◌, ℕ, ◌+◌, ◌*◌, ◌<◌, ◌≤◌, slice_index, length}
use Rattle.batch.specs.declared.limits.TheConstants.{MAX_TRANSFERS}
use Rattle.steady_schedule.proofs.pricing.CoverCosts.make_up.Given as goal

abbrev pub invariant-loop-v : goal.invariant-loop-v
invariant-loop-v l = record {
  sized : length l.self.costs ≡ MAX_TRANSFERS + 1;
  same : l.self.price ≡ l.initial.self.price;
  none : slice_index l.self.costs 0 ≡ 0;
  told : (v : ℕ) → v < l.v → slice_index l.self.costs v ≤ v * 131072;
  more : (v k : ℕ) → 0 < k → k ≤ l.top → v + k < l.v → slice_index l.self.costs (v + k) ≤ slice_index l.self.costs v + slice_index l.self.price k;
}
