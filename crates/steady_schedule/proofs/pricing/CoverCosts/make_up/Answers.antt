use Rattle.std.proofs.Common.{ℕ, List, arith, slice_index, subst}
use Rattle.steady_schedule.specs.Prices.{CostsAtLeast}
use Rattle.steady_schedule.proofs.Prices.{made_up}
use Rattle.steady_schedule.proofs.pricing.CoverCosts.make_up.Goals as goal

pub returns-clause-cheapest : goal.returns-clause-cheapest
returns-clause-cheapest c =
    let now = c.loop-v.invariant in
    subst (λ (price : List ℕ). CostsAtLeast (slice_index price) c.args.top c.args.number (slice_index c.loop-v.self.costs c.args.number)) now.same
    (made_up (slice_index c.loop-v.self.costs) (slice_index c.loop-v.self.price) c.args.top c.args.number now.none
    (λ v k some few room. now.more v k some few (omega (arith, room))))
