use Rattle.std.proofs.Common.{◌≡◌, ◌-◌, get_or, arith}
use Rattle.steady_schedule.specs.Waiting.{count_at}
use Rattle.steady_schedule.proofs.Waiting.{told_now, told_some, out_bits, zero_waits, three_waits, count_here}
use Rattle.steady_schedule.proofs.remaining.Remaining.take.Goals as goal

pub overflow_sub-self-2 : goal.overflow_sub-self-2
overflow_sub-self-2 c =
    let s = c.args.self.now in
    omega (
      arith,
      c.requires.there,
      zero_waits s.counts s.zero.near s.zero.uses s.three.near s.three.uses c.args.zero c.args.three s.told c.requires.zero_in
          c.requires.three_in,
    )

pub overflow_sub-self-3 : goal.overflow_sub-self-3
overflow_sub-self-3 c =
    let s = c.args.self.now in
    omega (
      arith,
      c.requires.there,
      three_waits s.counts s.zero.near s.zero.uses s.three.near s.three.uses c.args.zero c.args.three s.told c.requires.zero_in
          c.requires.three_in,
    )

pub invariant_of-self : goal.invariant_of-self
invariant_of-self c =
    let s = c.args.self.now in
    let zero = zero_waits s.counts s.zero.near s.zero.uses s.three.near s.three.uses c.args.zero c.args.three s.told c.requires.zero_in c.requires.three_in in
    let three = three_waits s.counts s.zero.near s.zero.uses s.three.near s.three.uses c.args.zero c.args.three s.told c.requires.zero_in c.requires.three_in in
    let here = count_here s.counts c.args.zero c.args.three (count_at s.counts c.args.zero c.args.three - c.args.count) s.told.places c.requires.zero_in
    c.requires.three_in in
    record {
      told = told_some s.counts s.zero.near s.zero.uses s.three.near s.three.uses c.args.zero c.args.three s.told c.requires.zero_in c.requires.three_in
          (count_at s.counts c.args.zero c.args.three - c.args.count) _ _ (omega (arith, here, c.if-self-place-gt0.true))
          (omega (arith, c.requires.some, c.requires.there)) (omega (arith, zero, c.requires.there)) (omega (arith, three, c.requires.there));
    }

pub invariant_of-self-2 : goal.invariant_of-self-2
invariant_of-self-2 c =
    let s = c.args.self.now in
    let zero = zero_waits s.counts s.zero.near s.zero.uses s.three.near s.three.uses c.args.zero c.args.three s.told c.requires.zero_in c.requires.three_in in
    let three = three_waits s.counts s.zero.near s.zero.uses s.three.near s.three.uses c.args.zero c.args.three s.told c.requires.zero_in c.requires.three_in in
    let here = count_here s.counts c.args.zero c.args.three (count_at s.counts c.args.zero c.args.three - c.args.count) s.told.places c.requires.zero_in
    c.requires.three_in in
    let none : count_at s.counts c.args.zero c.args.three - c.args.count ≡ 0 = omega (arith, here, c.if-self-place-gt0.false) in
    record {
      told = told_now s.counts c.args.zero c.args.three (count_at s.counts c.args.zero c.args.three - c.args.count) s.told.places c.requires.zero_in
          c.requires.three_in s.zero.near s.zero.uses s.three.near s.three.uses _ _ _ _ s.told
          (out_bits _ (get_or s.zero.near c.args.zero 0) c.args.three _ none c.without_module.ensures.out c.without_module.ensures.others)
          (out_bits _ (get_or s.three.near c.args.three 0) c.args.zero _ none c.without_module-2.ensures.out c.without_module-2.ensures.others)
          (omega (arith, zero, c.requires.there)) (omega (arith, three, c.requires.there));
    }
