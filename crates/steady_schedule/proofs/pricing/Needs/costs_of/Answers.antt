use Rattle.std.proofs.Common.{arith}
use Rattle.steady_schedule.proofs.Sums.{sum_more}
use Rattle.steady_schedule.proofs.pricing.Needs.costs_of.Goals as goal

pub loop-three-preserved : goal.loop-three-preserved
loop-three-preserved c =
    let before = c.loop-three.invariant in
    let at = c.loop-three.three in
    let cheap = c.cost_of.ensures.cheapest in
    record {
      low = omega (arith, before.low, c.cost_of.ensures.low);
      cheapest = λ most costs. omega (
        arith,
        before.cheapest most costs,
        costs c.args.zero at c.cost_of.result c.requires.zero (omega arith)
            (λ lengths all is. cheap lengths all (omega (arith, is, c.number-number.ensures.number))),
        sum_more at (most c.args.zero),
      );
    }
