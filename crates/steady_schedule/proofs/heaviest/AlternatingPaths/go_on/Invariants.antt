use Rattle.std.proofs.Common.{◌≡◌, ◌<◌, ℕ, true}
use Rattle.std.specs.Prelude.{IfSome}
use Rattle.batch.specs.declared.limits.TheConstants.{MAX_MODULES}
use Rattle.link_graph.specs.Masks.{has_bit}
use Rattle.steady_schedule.proofs.heaviest.AlternatingPaths.go_on.Given as goal

abbrev pub invariant-links : goal.invariant-links
invariant-links l = record {
  within : (m : ℕ) → has_bit l.rest m ≡ true → has_bit l.threes m ≡ true;
  low : IfSome l.nearest (λ three. three < MAX_MODULES);
  has : IfSome l.nearest (λ three. has_bit l.threes three ≡ true);
}

abbrev pub decreases-links : goal.decreases-links
decreases-links l = l.rest
