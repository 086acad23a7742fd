-- The settings of a schedule, put on the switches one after another.
use Rattle.std.proofs.Common.{◌≡◌, ◌+◌, ℕ, List, Option, Some, sym, ap, ◌∙◌, add-one}
use Rattle.batch.specs.declared.transfer.Transfer.{Transfer}
use Rattle.crossbar.specs.declared.chip.Chip.TheVariants.{A}
use Rattle.crossbar.specs.declared.pair.Pair.{Pair}
use Rattle.crossbar.specs.declared.traffic.Passing.{Passing}
use Rattle.switch_settings.specs.Asking.{HaveReplied}
use Rattle.switch_settings.specs.Schedules.{HaveAllReplied}
use Rattle.switch_settings.specs.Sending.{in_order, pairs_at, standing_before}
use Rattle.switch_settings.specs.Settings.{numbers_in, setting_pairs}

-- the pairs of a setting
pub pairs_are : (batch : List Transfer) (settings : List (List ℕ)) (k : ℕ) (numbers : List ℕ) (pairs : List Pair) → numbers ≡ numbers_in settings k → pairs
    ≡ in_order (setting_pairs batch numbers) → pairs ≡ pairs_at batch settings k
pairs_are batch settings k numbers pairs n is = is ∙ ap (λ (xs : List ℕ). in_order (setting_pairs batch xs)) n

-- the pairs of the setting before stand
pub known_next : (batch : List Transfer) (settings : List (List ℕ)) (k : ℕ) (pairs : List Pair) → pairs ≡ pairs_at batch settings k → Some pairs
    ≡ standing_before batch settings (k + 1)
known_next batch settings k pairs e = ap (λ (ps : List Pair). Some ps) e ∙ ap (standing_before batch settings) (sym (add-one k))

-- one setting more
pub one_replied : (modules : ℕ) (batch : List Transfer) (settings : List (List ℕ)) (k : ℕ) (known : Option (List Pair)) (pairs : List Pair)
    (old mid new : Option (List Passing)) → known ≡ standing_before batch settings k → pairs ≡ pairs_at batch settings k
    → HaveAllReplied modules batch settings k old mid → HaveReplied modules known pairs mid new → HaveAllReplied modules batch settings (k + 1) old new
one_replied modules batch settings k known pairs old mid new e f before replied = rw (add-one k) (mid, before, rw (e, f) at replied)

-- ---- the bytes that each switch is sent
