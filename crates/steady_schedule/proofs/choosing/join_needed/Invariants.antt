use Rattle.std.proofs.Common.{◌≡◌, ◌⊎◌, ℕ, true}
use Rattle.std.specs.Prelude.{IsSome}
use Rattle.steady_schedule.specs.Covers.{KeepsPartners}
use Rattle.link_graph.specs.Masks.{has_bit}
use Rattle.steady_schedule.specs.Matchings.{partner, AreMatched}
use Rattle.steady_schedule.specs.Searches.{JoinsNear}
use Rattle.steady_schedule.proofs.choosing.join_needed.Given as goal

abbrev pub invariant-links : goal.invariant-links
invariant-links l = record {
  matched : AreMatched l.of l.back;
  near : JoinsNear l.held.near l.initial.of l.of;
  within : (z : ℕ) → has_bit l.rest z ≡ true → has_bit l.held.needed z ≡ true;
  joined : (z : ℕ) → has_bit l.held.needed z ≡ true → (has_bit l.rest z ≡ true) ⊎ IsSome (partner l.of z);
  back : KeepsPartners l.initial.back l.back;
}

abbrev pub decreases-links : goal.decreases-links
decreases-links l = l.rest
