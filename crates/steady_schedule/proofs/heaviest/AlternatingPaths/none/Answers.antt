use Rattle.std.proofs.Common.{ℕ, ◌<◌, arith}
use Rattle.std.proofs.lemmas.List.Elements.{All-replicate}
use Rattle.batch.specs.declared.limits.TheConstants.{MAX_MODULES}
use Rattle.steady_schedule.proofs.heaviest.AlternatingPaths.none.Goals as goal

pub invariant_of-result : goal.invariant_of-result
invariant_of-result c = record { low = All-replicate (λ (zero : ℕ). zero < MAX_MODULES) 32 0 (omega arith) }
