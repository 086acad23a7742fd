use Rattle.std.proofs.Common.{◌≡◌, ◌<◌, ℕ, Some, true}
use Rattle.link_graph.specs.Masks.{has_pair}
use Rattle.steady_schedule.specs.Matchings.{partner}
use Rattle.steady_schedule.proofs.weighing.part_some.Given as goal

abbrev pub invariant-loop-zero : goal.invariant-loop-zero
invariant-loop-zero l =
    (x y : ℕ) → x < l.zero → partner l.matching.zero x ≡ Some y
    → has_pair l.reach.zero.near x y ≡ true
