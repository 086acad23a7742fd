use Rattle.std.proofs.Common.{◌≤◌}
use Rattle.steady_schedule.proofs.pricing.CoverCosts.count_pieces.Given as goal

abbrev pub invariant-loop : goal.invariant-loop
invariant-loop l = record { few : l.left ≤ l.number }
