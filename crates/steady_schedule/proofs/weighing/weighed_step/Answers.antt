use Rattle.std.proofs.Common.{arith}
use Rattle.steady_schedule.proofs.Steps.{near_from_counts, joined_below}
use Rattle.steady_schedule.proofs.weighing.weighed_step.Goals as goal

pub longest_hold-requires-clause-near : goal.longest_hold-requires-clause-near
longest_hold-requires-clause-near c x y joined =
    let l = c.args.remaining.now in
    let m = c.in-Some.made in
    near_from_counts l.counts l.zero.near l.zero.uses l.three.near l.three.uses l.told m.zero m.three m.matched x y joined
    (omega (arith, c.in_ok-settings.ensures.0, c.in-Some.ensures.each x y joined))

pub longest_hold-requires-clause-zero : goal.longest_hold-requires-clause-zero
longest_hold-requires-clause-zero c x x_in full =
    c.in-Some.ensures.joined.zero_joined x x_in (omega (arith, full, c.args.remaining.now.told.uses_zero x x_in, c.in_ok-settings.ensures.0))

pub longest_hold-requires-clause-three : goal.longest_hold-requires-clause-three
longest_hold-requires-clause-three c x x_in full =
    c.in-Some.ensures.joined.three_joined x x_in (omega (arith, full, c.args.remaining.now.told.uses_three x x_in, c.in_ok-settings.ensures.0))

pub returns-in-Some-clause-low : goal.returns-in-Some-clause-low
returns-in-Some-clause-low c =
    let l = c.args.remaining.now in
    let m = c.in-Some.made in
    joined_below l.counts l.zero.near l.zero.uses l.three.near l.three.uses l.told m.zero m.three m.matched c.args.modules c.requires.none (λ x y joined.
    near_from_counts l.counts l.zero.near l.zero.uses l.three.near l.three.uses l.told m.zero m.three m.matched x y joined
    (omega (arith, c.in_ok-settings.ensures.0, c.in-Some.ensures.each x y joined)))
