use Rattle.std.proofs.Common.{◌≡◌, ◌⊎◌, ℕ, true}
use Rattle.std.specs.Prelude.{IsSome}
use Rattle.link_graph.specs.Masks.{has_bit}
use Rattle.steady_schedule.specs.Matchings.{partner}
use Rattle.steady_schedule.proofs.weighing.are_joined.Given as goal

abbrev pub invariant-links : goal.invariant-links
invariant-links l =
    (z : ℕ) → has_bit l.mask z ≡ true → (has_bit l.rest z ≡ true) ⊎ IsSome (partner l.partners z)

abbrev pub decreases-links : goal.decreases-links
decreases-links l = l.rest
