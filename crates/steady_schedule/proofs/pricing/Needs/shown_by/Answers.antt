use Rattle.std.proofs.Common.{ℕ, ◌+◌, ap, refl, arith}
use Rattle.batch.specs.declared.limits.TheConstants.{MAX_MODULES}
use Rattle.steady_schedule.specs.Waiting.{sum_below}
use Rattle.steady_schedule.proofs.Prices.{last_change}
use Rattle.steady_schedule.proofs.Sums.{sum_more}
use Rattle.steady_schedule.proofs.pricing.Needs.shown_by.Goals as goal

pub loop-zero-preserved : goal.loop-zero-preserved
loop-zero-preserved c =
    let before = c.loop-zero.invariant in
    let now = c.costs_of-total.ensures in
    record {
      low = omega (arith, before.low, now.low);
      cheapest = λ most costs. omega (
        arith,
        before.cheapest most costs,
        now.cheapest most costs,
        sum_more c.loop-zero.zero (λ u. sum_below (MAX_MODULES + 1) (most u)),
      );
    }

pub returns : goal.returns
returns c some =
    let needs = c.args.self.now in
    record {
      counts = needs.remaining.counts;
      counted = needs.counted;
      busiest = needs.busiest;
      longest = needs.longest;
      fair = c.if-not-are_fair.ensures refl;
      dear = λ most costs. last_change c.loop-zero.total (sum_below (MAX_MODULES + 1) (λ u. sum_below (MAX_MODULES + 1) (most u))) some
          (omega (
            arith,
            c.loop-zero.invariant.cheapest most costs,
            ap (λ (n : ℕ). sum_below n (λ u. sum_below (MAX_MODULES + 1) (most u)))
                {x = c.loop-zero.zero} {y = MAX_MODULES + 1} (omega arith),
          ));
    }
