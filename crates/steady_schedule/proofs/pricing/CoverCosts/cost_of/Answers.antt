use Rattle.std.proofs.Common.{arith, slice_index}
use Rattle.steady_schedule.specs.Prices.{price_for}
use Rattle.steady_schedule.proofs.Prices.{both_low, same_prices}
use Rattle.steady_schedule.proofs.pricing.CoverCosts.cost_of.Goals as goal

pub make_up-cost-requires-clause-low : goal.make_up-cost-requires-clause-low
make_up-cost-requires-clause-low c k some few = omega (
  arith,
  c.take_prices.ensures k some few,
  both_low c.args.prices.now c.args.top c.args.zero c.args.three k
      c.requires.fair some few,
)

pub returns-then-three-lt-MAX_MODULES-clause-cheapest : goal.returns-then-three-lt-MAX_MODULES-clause-cheapest
returns-then-three-lt-MAX_MODULES-clause-cheapest c = same_prices (slice_index c.take_prices.new.self.price)
    (price_for c.args.prices.now c.args.zero c.args.three) c.args.top c.args.number c.make_up-cost.result c.take_prices.ensures c.make_up-cost.ensures.cheapest

pub returns-else-three-lt-MAX_MODULES-clause-cheapest : goal.returns-else-three-lt-MAX_MODULES-clause-cheapest
returns-else-three-lt-MAX_MODULES-clause-cheapest c = same_prices (slice_index c.take_prices.new.self.price)
    (price_for c.args.prices.now c.args.zero c.args.three) c.args.top c.args.number c.make_up-cost.result c.take_prices.ensures c.make_up-cost.ensures.cheapest
