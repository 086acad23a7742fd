use Rattle.std.proofs.Common.{◌≡◌, ℕ, ◌+◌, ◌<◌, ◌⊎◌, get_or, Bool, sum}
use Rattle.batch.specs.declared.limits.TheConstants.{MAX_MODULES}
use Rattle.link_graph.specs.declared.link.End.TheVariants.{Zero}
use Rattle.euler_split.specs.Trails.{AreEven, walk_surplus, pairs_left}
use Rattle.euler_split.proofs.trails.walk.Given as goal

abbrev pub invariant-steps : goal.invariant-steps
invariant-steps l = record {
  zero_in : l.zero < MAX_MODULES;
  cost : l.steps + pairs_left l.untaken.zero ≡ l.initial.steps + pairs_left l.initial.untaken.zero;
  less : (sum l.untaken.zero < sum l.initial.untaken.zero) ⊎ ((0 < get_or l.untaken.zero l.zero 0) × (sum l.untaken.zero ≡ sum l.initial.untaken.zero));
  even : (all : ℕ → ℕ → Bool) → AreEven all l.start l.initial.untaken.zero l.initial.left_half (walk_surplus l.first_left l.start Zero l.start)
      → AreEven all l.start l.untaken.zero l.left_half (walk_surplus l.first_left l.start Zero l.zero);
}

abbrev pub decreases-steps : goal.decreases-steps
decreases-steps l = sum l.untaken.zero
