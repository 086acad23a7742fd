-- The table of the modules that take part, one more transfer at a time, and the rows that it gives.
use Rattle.std.proofs.Common.{◌≡◌, ℕ, Bool, false, List, get_or, take, replicate, arith}
use Rattle.std.proofs.lemmas.Grind.{elements}
use Rattle.std.proofs.lemmas.List.{get_or_past}
use Rattle.batch.specs.declared.limits.TheConstants.{MAX_MODULES}
use Rattle.batch.specs.declared.transfer.Transfer.{Transfer}
use Rattle.schedule_picture.specs.Places.{rack_modules, TakePart}

none_up : (n k : ℕ) → get_or (replicate n false) k false ≡ false
none_up n k = grind (arith, elements, get_or_past {X = Bool} (replicate n false) k false)

-- before any transfer no module takes part
pub parts_none : (batch : List Transfer) (n : ℕ) → TakePart (take 0 batch) (replicate n false)
parts_none batch n m below = none_up n m

-- all modules of a rack
pub all_modules : (n : ℕ) → n ≡ MAX_MODULES → n ≡ rack_modules
unfolding rack_modules
all_modules n e = e
