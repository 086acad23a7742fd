use Rattle.std.proofs.Common.{ℕ, ◌<◌}
use Rattle.batch.specs.Places.{HasPlace}
use Rattle.module_memory.specs.Lending.{place_in}
use Rattle.module_memory.proofs.lendable.first_missing.Given as goal

abbrev pub invariant-loop-i : goal.invariant-loop-i
invariant-loop-i l = (k : ℕ) → k < l.i → HasPlace l.shape (place_in l.places k)
