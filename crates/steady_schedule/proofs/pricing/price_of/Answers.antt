use Rattle.std.proofs.Common.{ℕ, ◌+◌, ◌<◌, ◌≤◌, arith}
use Rattle.batch.specs.declared.limits.TheConstants.{MAX_MODULES}
use Rattle.link_graph.specs.declared.limits.TheConstants.{LINKS}
use Rattle.steady_schedule.specs.Prices.{SCALE, price_at}
use Rattle.steady_schedule.proofs.Prices.{price_low}
use Rattle.steady_schedule.proofs.pricing.price_of.Goals as goal
use Rattle.steady_schedule.proofs.pricing.price_of.Goals.{then-zero-lt-MAX_MODULES, else-zero-lt-MAX_MODULES}

pub overflow_add-price-then-three-lt-MAX_MODULES-3 : goal.overflow_add-price-then-three-lt-MAX_MODULES-3
overflow_add-price-then-three-lt-MAX_MODULES-3 c =
    let few : (l : ℕ) → l < LINKS → price_at c.args.prices.now l c.args.k ≤ SCALE = λ l l_in. price_low c.args.prices.now c.args.top l c.args.k c.requires.fair
    l_in c.requires.some c.requires.within in
    let three = few (MAX_MODULES + c.args.three) (omega arith) in
    elim c.if-zero-lt-MAX_MODULES.branch [
      | then-zero-lt-MAX_MODULES w ↦ record { fits = omega (arith, w.price-is, few c.args.zero (omega arith), three) }
      | else-zero-lt-MAX_MODULES w ↦ record { fits = omega (arith, w.price-is, three) }
    ]
