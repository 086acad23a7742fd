use Rattle.std.proofs.Common.{◌≡◌, ◌≤◌}
use Rattle.link_graph.specs.Counts.{count_below}
use Rattle.link_graph.specs.Masks.{has_bit}
use Rattle.steady_schedule.proofs.partners.bits_set.Given as goal

abbrev pub invariant-loop-module : goal.invariant-loop-module
invariant-loop-module l = (l.count ≡ count_below l.«module» (λ m. has_bit l.mask m)) × (l.count ≤ l.«module»)
