use Rattle.std.proofs.Common.{◌-◌, slice_index, arith}
use Rattle.steady_schedule.proofs.Prices.{split_more}
use Rattle.steady_schedule.proofs.pricing.CoverCosts.cheapest.Goals as goal
use Rattle.steady_schedule.proofs.pricing.CoverCosts.cheapest.Goals.{then-number-top, else-number-top}

pub loop-k-init : goal.loop-k-init
loop-k-init c = elim c.if-number-top.branch [
  | then-number-top w ↦
      rw w.best-is (record {
        low = omega (arith, c.requires.low c.args.number c.requires.some w.if-number-top.true, c.requires.some);
        one =
            λ le. omega arith;
        two = λ i some less. absurd (omega (arith, some, less));
      })
  | else-number-top w ↦
      rw w.best-is
      (record {
        low = omega (
          arith,
          w.if-number-top.false,
          c.requires.some_top,
          c.requires.told 1 (omega arith),
          c.requires.told (c.args.number - 1) (omega arith),
        );
        one = λ le. absurd (omega (arith, le, w.if-number-top.false));
        two =
            λ i some less. absurd (omega (arith, some, less));
      })
]

pub returns-clause-least : goal.returns-clause-least
returns-clause-least c =
    let now = c.loop-k.invariant in
    split_more (slice_index c.args.self.now.costs) (slice_index c.args.self.now.price) c.args.top c.args.number c.loop-k.best c.requires.none c.requires.more
    now.one (λ k some few room. now.two k some (omega (arith, few, room)))
