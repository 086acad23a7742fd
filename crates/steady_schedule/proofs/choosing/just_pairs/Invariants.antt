use Rattle.std.proofs.Common.{◌≡◌, ℕ, true, length}
use Rattle.batch.specs.declared.limits.TheConstants.{MAX_MODULES}
use Rattle.link_graph.specs.Masks.{has_pair}
use Rattle.steady_schedule.proofs.choosing.just_pairs.Given as goal

abbrev pub invariant-loop-module : goal.invariant-loop-module
invariant-loop-module l = record {
  sized : length l.pairs ≡ MAX_MODULES;
  within : (u v : ℕ) → has_pair l.pairs u v ≡ true → has_pair l.reach.zero.near u v ≡ true;
}
