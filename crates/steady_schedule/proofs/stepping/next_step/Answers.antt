use Rattle.std.proofs.Common.{arith}
use Rattle.steady_schedule.proofs.Reaches.{each_joined}
use Rattle.steady_schedule.proofs.Steps.{near_from_counts, joined_below}
use Rattle.steady_schedule.proofs.stepping.next_step.Goals as goal

pub longest_hold-requires-clause-near : goal.longest_hold-requires-clause-near
longest_hold-requires-clause-near c x y joined =
    let l = c.args.remaining.now in
    let reach = c.choose.result.reach in
    let m = c.join_free.new.matching in
    near_from_counts l.counts l.zero.near l.zero.uses l.three.near l.three.uses l.told m.zero m.three m.matched x y joined
    (omega (
      arith,
      c.choose.ensures.some,
      each_joined l.counts reach.settings reach.zero.near reach.three.near c.choose.result.matching.zero m.zero m.three
          c.choose.ensures.held m.matched c.join_free.ensures.joins c.choose.ensures.each x y joined,
    ))

pub longest_hold-requires-clause-zero : goal.longest_hold-requires-clause-zero
longest_hold-requires-clause-zero c x x_in full =
    c.join_free.ensures.zero x
    (c.choose.ensures.joined.zero_joined x x_in (omega (arith, full, c.args.remaining.now.told.uses_zero x x_in, c.choose.ensures.some)))

pub longest_hold-requires-clause-three : goal.longest_hold-requires-clause-three
longest_hold-requires-clause-three c x x_in full =
    c.join_free.ensures.three x
    (c.choose.ensures.joined.three_joined x x_in (omega (arith, full, c.args.remaining.now.told.uses_three x x_in, c.choose.ensures.some)))

pub returns-clause-low : goal.returns-clause-low
returns-clause-low c =
    let l = c.args.remaining.now in
    let reach = c.choose.result.reach in
    let m = c.join_free.new.matching in
    joined_below l.counts l.zero.near l.zero.uses l.three.near l.three.uses l.told m.zero m.three m.matched c.args.modules c.requires.none (λ x y joined.
    near_from_counts l.counts l.zero.near l.zero.uses l.three.near l.three.uses l.told m.zero m.three m.matched x y joined
    (omega (
      arith,
      c.choose.ensures.some,
      each_joined l.counts reach.settings reach.zero.near reach.three.near c.choose.result.matching.zero m.zero m.three
          c.choose.ensures.held m.matched c.join_free.ensures.joins c.choose.ensures.each x y joined,
    )))
