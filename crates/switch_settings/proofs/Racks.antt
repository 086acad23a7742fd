-- The rack that has the modules of a batch.
use Rattle.std.proofs.Common.{◌≡◌, ℕ, ◌<◌, Bool, true, false, List, length, sym, ◌∙◌, ◌||◌, nat_le, refl, arith}
use Rattle.std.proofs.lemmas.List.Folds.{list_any_at}
use Rattle.std.proofs.lemmas.Bool.Decides.{nat_tests}
use Rattle.batch.specs.declared.transfer.Transfer.{Transfer}
use Rattle.batch.specs.Batches.{IsBatch}
use Rattle.batch.specs.Overlap.{no_transfer, transfer_at}
use Rattle.crossbar.specs.declared.switch.TheConstants.{JOINED_MODULES}
use Rattle.switch_settings.specs.Racks.{HasModulesOf, is_far, is_wide, joined_by}

-- numbers of modules that one switch joins
near : (m n : ℕ) → (nat_le JOINED_MODULES m || nat_le JOINED_MODULES n) ≡ false → (m < JOINED_MODULES) × (n < JOINED_MODULES)
near m n e = (grind (arith, nat_tests), grind (arith, nat_tests))

-- where none is far, each isn't
each_near : (ts : List Transfer) (i : ℕ) → i < length ts → is_wide ts ≡ false → is_far (transfer_at ts i) ≡ false
each_near ts i below none = elim (is_far (transfer_at ts i)) as (λ b. is_far (transfer_at ts i) ≡ b → b ≡ false) [
  | false ↦ λ e. refl
  | true ↦ λ e. (let bad : true ≡ false = sym (list_any_at is_far ts i no_transfer below e) ∙ none in absurd cc)
] refl

-- the rack has the modules that the batch names
pub has_modules : (ts : List Transfer) (wide : Bool) → IsBatch ts → is_wide ts ≡ wide → HasModulesOf (joined_by wide) ts
has_modules ts true b e i below = (b.within i no_transfer below).0
has_modules ts false b e i below =
    let t = transfer_at ts i in near t.initiator t.responder (each_near ts i below e)
