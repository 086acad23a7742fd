use Rattle.std.proofs.Common.{arith}
use Rattle.steady_schedule.proofs.pricing.Needs.search.Goals as goal

pub loop-round-init : goal.loop-round-init
loop-round-init c = record { shown = λ some. absurd (omega (arith, some)) }
