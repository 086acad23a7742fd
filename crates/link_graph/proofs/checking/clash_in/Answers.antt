use Rattle.std.proofs.Common.{sym, arith}
use Rattle.link_graph.proofs.Sharing.{place_of_two, none_above_one, first_link, none_before, no_link}
use Rattle.link_graph.proofs.checking.clash_in.Goals as goal

pub returns-in_err-place-clause-none : goal.returns-in_err-place-clause-none
returns-in_err-place-clause-none c =
    rw c.from_residual.ensures (no_link _ _ _ c.requires c.count_setting-counts.ensures (none_above_one _ (sym c.in_err-place.ensures)))

pub returns-clause-some : goal.returns-clause-some
returns-clause-some c =
    let place = place_of_two _ _ (sym c.in_ok-place.ensures) in
    first_link _ _ _ _ _ c.requires c.count_setting-counts.ensures (omega (arith, place.0, c.count_setting-counts.ensures.places)) place.1 c.at.ensures.index
    c.at.ensures.«module»

pub returns-clause-first : goal.returns-clause-first
returns-clause-first c =
    let place = place_of_two _ _ (sym c.in_ok-place.ensures) in
    λ other. none_before _ _ _ _ _ other c.requires c.count_setting-counts.ensures (omega (arith, place.0, c.count_setting-counts.ensures.places)) place.2
    c.at.ensures.index c.at.ensures.«module»
