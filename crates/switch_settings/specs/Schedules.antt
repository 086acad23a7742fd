-- What passes over the configuration links while the settings of a schedule are put on the switches
-- of a rack, one after another. The order is this project's choice.
use Rattle.std.specs.Prelude.{◌≡◌, ℕ, zero, suc, List, Option}
use Rattle.batch.specs.declared.transfer.Transfer.{Transfer}
use Rattle.crossbar.specs.declared.chip.Chip.TheVariants.{A}
use Rattle.crossbar.specs.declared.traffic.Passing.{Passing}
use Rattle.switch_settings.specs.Asking.{HaveReplied}
use Rattle.switch_settings.specs.Sending.{pairs_at, standing_before}

-- The first settings were sent, asked for and replied to as they call for, so many of them, one
-- after another, and nothing else passed.
abbrev pub HaveAllReplied : ℕ → List Transfer → List (List ℕ) → ℕ → Option (List Passing)
    → Option (List Passing) → Type 0
HaveAllReplied modules batch settings zero old new = new ≡ old
HaveAllReplied modules batch settings (suc k) old new =
    (mid : Option (List Passing)) × HaveAllReplied modules batch settings k old mid
    × HaveReplied modules (standing_before batch settings k) (pairs_at batch settings k) mid new
