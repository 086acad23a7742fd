use Rattle.std.proofs.Common.{◌≡◌, ◌+◌}
use Rattle.link_graph.specs.Masks.{has_pair}
use Rattle.euler_split.specs.Trails.{AreEven, no_surplus, pairs_left}
use Rattle.euler_split.proofs.trails.left_of.Given as goal

abbrev pub invariant-loop-start : goal.invariant-loop-start
invariant-loop-start l = (l.steps + pairs_left l.pairs.zero ≡ l.initial.steps + pairs_left l.initial.pairs.zero + l.start)
    × AreEven (has_pair l.initial.pairs.zero) l.start l.pairs.zero l.left_half no_surplus
