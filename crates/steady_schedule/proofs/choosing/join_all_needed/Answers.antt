use Rattle.std.proofs.Common.{arith}
use Rattle.link_graph.specs.declared.link.End.TheVariants.{Zero, Three}
use Rattle.steady_schedule.proofs.Halls.{barred_longer}
use Rattle.steady_schedule.proofs.Longest.{all_held, joined_over}
use Rattle.steady_schedule.proofs.Matchings.{partner_low}
use Rattle.steady_schedule.proofs.Reaches.{each_joined, each_turned}
use Rattle.steady_schedule.proofs.choosing.join_all_needed.Goals as goal

pub shorter-requires-clause-low : goal.shorter-requires-clause-low
shorter-requires-clause-low c x y = partner_low _ _ x y c.join_needed-in_vain.ensures.matched

pub shorter-requires-in-Some-in_vain-clause-low : goal.shorter-requires-in-Some-in_vain-clause-low
shorter-requires-in-Some-in_vain-clause-low c x y = partner_low _ _ x y c.join_needed-in_vain-2.ensures.matched

pub returns-in-Some-clause-each : goal.returns-in-Some-clause-each
returns-in-Some-clause-each c =
    let reach = c.args.reach.now in
    each_joined c.args.remaining.now.counts reach.settings reach.zero.near reach.three.near c.args.matching.now.zero c.join_needed-in_vain.new.of
    c.join_needed-in_vain.new.back c.requires.held c.join_needed-in_vain.ensures.matched c.join_needed-in_vain.ensures.near c.requires.each

pub returns-in-Some-in_vain-clause-each : goal.returns-in-Some-in_vain-clause-each
returns-in-Some-in_vain-clause-each c =
    let reach = c.args.reach.now in
    let first = c.join_needed-in_vain in
    let second = c.join_needed-in_vain-2 in
    each_turned c.args.remaining.now.counts reach.settings reach.zero.near reach.three.near first.new.of first.new.back second.new.back second.new.of
    c.requires.held first.ensures.matched second.ensures.matched second.ensures.near
    (each_joined c.args.remaining.now.counts reach.settings reach.zero.near reach.three.near c.args.matching.now.zero first.new.of first.new.back
    c.requires.held first.ensures.matched first.ensures.near c.requires.each)

pub returns-clause-each : goal.returns-clause-each
returns-clause-each c =
    let reach = c.args.reach.now in
    let first = c.join_needed-in_vain in
    let second = c.join_needed-in_vain-2 in
    each_turned c.args.remaining.now.counts reach.settings reach.zero.near reach.three.near first.new.of first.new.back second.new.back second.new.of
    c.requires.held first.ensures.matched second.ensures.matched second.ensures.near
    (each_joined c.args.remaining.now.counts reach.settings reach.zero.near reach.three.near c.args.matching.now.zero first.new.of first.new.back
    c.requires.held first.ensures.matched first.ensures.near c.requires.each)

pub shorter-requires-clause-more : goal.shorter-requires-clause-more
shorter-requires-clause-more c =
    let l = c.args.remaining.now in
    let reach = c.args.reach.now in
    let vain = c.in-Some.vain in
    let joined = c.join_needed-in_vain in
    let all = all_held l.counts reach.settings c.args.modules reach.zero.near reach.three.near c.requires.some c.requires.none c.requires.all in
    barred_longer l.counts Zero reach.zero.near l.zero.uses reach.zero.needed vain.unseen vain.link joined.new.of joined.new.back c.args.most reach.settings
    c.args.modules c.requires.some c.requires.left c.requires.within l.told.uses_zero c.requires.zero_needed (λ z y z_in y_in le. (all z y z_in y_in le).0)
    joined.ensures.matched c.in-Some.ensures.needed c.in-Some.ensures.vain c.requires.most

pub shorter-requires-in-Some-in_vain-clause-more : goal.shorter-requires-in-Some-in_vain-clause-more
shorter-requires-in-Some-in_vain-clause-more c =
    let l = c.args.remaining.now in
    let reach = c.args.reach.now in
    let vain = c.in-Some-in_vain.vain in
    let joined = c.join_needed-in_vain-2 in
    let all = all_held l.counts reach.settings c.args.modules reach.zero.near reach.three.near c.requires.some c.requires.none c.requires.all in
    barred_longer l.counts Three reach.three.near l.three.uses reach.three.needed vain.unseen vain.link joined.new.of joined.new.back c.args.most reach.settings
    c.args.modules c.requires.some c.requires.left c.requires.within l.told.uses_three c.requires.three_needed
    (λ z y z_in y_in le. (all y z y_in z_in le).1) joined.ensures.matched c.in-Some-in_vain.ensures.needed c.in-Some-in_vain.ensures.vain c.requires.most

pub returns-in-Some-clause-joined : goal.returns-in-Some-clause-joined
returns-in-Some-clause-joined c none = absurd (omega (arith, none, c.shorter.ensures.some))

pub returns-in-Some-in_vain-clause-joined : goal.returns-in-Some-in_vain-clause-joined
returns-in-Some-in_vain-clause-joined c none = absurd (omega (arith, none, c.shorter-in-Some-in_vain.ensures.some))

pub returns-clause-joined : goal.returns-clause-joined
returns-clause-joined c _ =
    let l = c.args.remaining.now in
    let reach = c.args.reach.now in
    let first = c.join_needed-in_vain in
    let second = c.join_needed-in_vain-2 in
    record {
      zero_joined = joined_over l.counts Zero l.zero.uses reach.zero.needed c.args.most reach.settings c.args.modules second.new.back c.requires.left
          c.requires.none l.told.uses_zero c.requires.zero_needed (λ z has. second.ensures.back z (first.ensures.joined c.in_default.is z has));
      three_joined = joined_over l.counts Three l.three.uses reach.three.needed c.args.most reach.settings c.args.modules second.new.of c.requires.left
          c.requires.none l.told.uses_three c.requires.three_needed (second.ensures.joined c.in_default-in_vain.is);
    }
