use Rattle.std.proofs.Common.{◌≡◌, ◌+◌, ◌≤◌, ℕ}
use Rattle.euler_split.specs.Pairs.{modules_in}
use Rattle.link_graph.specs.Masks.{has_pair}
use Rattle.euler_split.specs.Trails.{pairs_left}
use Rattle.euler_split.specs.Deals.{odd_among}
use Rattle.euler_split.proofs.halving.odd_pairs.Given as goal

abbrev pub invariant-loop-place : goal.invariant-loop-place
invariant-loop-place l = (l.steps ≡ l.fn.steps + l.place) × (pairs_left l.pairs.zero ≤ l.place)
    × ((u v : ℕ) → has_pair l.pairs.zero u v ≡ odd_among (modules_in l.graph l.members) l.place u v)
