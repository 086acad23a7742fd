use Rattle.std.proofs.Common.{◌≡◌, ◌++◌, take, string_bytes}
use Rattle.link_graph.specs.ScheduleText.{numbers}
use Rattle.plan_answers.proofs.pricing.push_prices.Given as goal

abbrev pub invariant-loop-price : goal.invariant-loop-price
invariant-loop-price l = string_bytes l.text ≡ string_bytes l.initial.text ++ numbers (take l.price-index l.prices)
