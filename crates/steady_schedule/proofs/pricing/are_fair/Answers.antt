use Rattle.std.proofs.Common.{ℕ, inl, inr, ap, arith}
use Rattle.std.proofs.lemmas.Bool.{cases_lt}
use Rattle.link_graph.specs.declared.limits.TheConstants.{LINKS}
use Rattle.steady_schedule.specs.Prices.{price_at}
use Rattle.steady_schedule.specs.Waiting.{sum_below}
use Rattle.steady_schedule.proofs.pricing.are_fair.Goals as goal

pub loop-k-preserved : goal.loop-k-preserved
loop-k-preserved c = record {
  each = λ i some few. elim (cases_lt i c.loop-k.k) [
    | inl lt ↦ c.loop-k.invariant.each i some lt
    | inr le ↦ omega (
      arith,
      few,
      le,
      c.sum_of_length.ensures,
      c.if-sum_of_length-gt-SCALE.false,
      ap (λ (j : ℕ). sum_below LINKS (λ m. price_at c.args.prices.now m j)) {x = i} {y = c.loop-k.k} (omega (arith, few, le)),
    )
  ];
}

pub returns : goal.returns
returns c _ = record {
  some = c.requires.some;
  few = c.requires.few;
  sized = c.requires.sized;
  each = λ k some few. c.loop-k.invariant.each k some (omega (arith, few));
}
