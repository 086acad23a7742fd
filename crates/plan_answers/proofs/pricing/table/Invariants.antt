use Rattle.std.proofs.Common.{◌≡◌, ◌+◌, ◌++◌, string_bytes}
use Rattle.std.specs.List.{flat_map, range_with_len}
use Rattle.plan_answers.specs.Pricing.{price_line}
use Rattle.plan_answers.proofs.pricing.table.Given as goal

abbrev pub invariant-loop-shorter : goal.invariant-loop-shorter
invariant-loop-shorter l = string_bytes l.text ≡ string_bytes l.initial.text ++ flat_map (λ shorter. price_line l.priced.prices.items (shorter + 1))
    (range_with_len 0 l.shorter)
