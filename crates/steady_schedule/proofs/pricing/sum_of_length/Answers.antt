use Rattle.std.proofs.Common.{sym, arith}
use Rattle.steady_schedule.specs.Prices.{price_at}
use Rattle.steady_schedule.proofs.Sums.{sum_more, sum_zero}
use Rattle.steady_schedule.proofs.pricing.sum_of_length.Goals as goal

pub loop-link-init : goal.loop-link-init
loop-link-init c = record { sum = sym (sum_zero (λ i. price_at c.args.prices.now i c.args.row)); low = omega arith }

pub loop-link-preserved : goal.loop-link-preserved
loop-link-preserved c =
    let before = c.loop-link.invariant in
    record {
      sum = omega (arith, before.sum, sum_more c.loop-link.link (λ i. price_at c.args.prices.now i c.args.row));
      low = omega (arith, before.low, c.type_inv.prices);
    }
