use Rattle.std.proofs.Common.{inl, inr, arith}
use Rattle.steady_schedule.specs.Searches.{JoinsNear}
use Rattle.steady_schedule.proofs.Reaches.{each_joined}
use Rattle.steady_schedule.proofs.choosing.Choice.of.Goals as goal

pub join_all_needed-shorter-requires-clause-each : goal.join_all_needed-shorter-requires-clause-each
join_all_needed-shorter-requires-clause-each c =
    let reach = c.of-reach.result in
    let none = c.none-matching.result.zero in
    let m = c.join_free.new.matching in
    let near : JoinsNear reach.zero.near none m.zero =
    λ x y joined. elim (c.join_free.ensures.joins x y joined) [ inl old ↦ inl old | inr just ↦ inr (c.just_pairs.ensures x y just) ] in
    each_joined c.args.remaining.now.counts reach.settings reach.zero.near reach.three.near none m.zero m.three
    (rw c.of-reach.ensures.settings c.of-reach.ensures.held) m.matched near
    (λ x y joined. absurd (omega (arith, c.none-matching.ensures x y joined)))
