use Rattle.std.proofs.Common.{◌≡◌, ◌+◌, ℕ, Bool, sum}
use Rattle.link_graph.specs.declared.link.End.TheVariants.{Zero}
use Rattle.euler_split.specs.Trails.{AreEven, no_surplus, walk_surplus, pairs_left}
use Rattle.euler_split.proofs.trails.walk_all_from.Given as goal

abbrev pub invariant-walks : goal.invariant-walks
invariant-walks l =
    (l.steps + pairs_left l.untaken.zero ≡ l.initial.steps + pairs_left l.initial.untaken.zero)
    × ((all : ℕ → ℕ → Bool) → AreEven all l.start l.initial.untaken.zero l.initial.left_half no_surplus → AreEven all l.start l.untaken.zero l.left_half
    (walk_surplus l.first_left l.start Zero l.start))

abbrev pub decreases-walks : goal.decreases-walks
decreases-walks l = sum l.untaken.zero
