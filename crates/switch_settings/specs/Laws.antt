-- What the laws state. Proofs use them; no contract of a call cites them.
use Rattle.std.specs.Prelude.{◌≡◌, ◌<◌, ◌≤◌, ◌+◌, ℕ, List, length}
use Rattle.batch.specs.Batches.{IsBatch}
use Rattle.batch.specs.declared.transfer.Transfer.{Transfer}
use Rattle.crossbar.specs.Pairs.{room_of, switch_of}
use Rattle.crossbar.specs.Switch.{Switch, after_all}
use Rattle.crossbar.specs.declared.chip.Wiring.{Wiring}
use Rattle.link_graph.specs.Schedules.{IsScheduleOf}
use Rattle.switch_settings.specs.Racks.{HasModulesOf}
use Rattle.switch_settings.specs.Sending.{sent_for_first}
use Rattle.switch_settings.specs.Settings.{numbers_in, setting_pairs}

-- After what is sent up to a setting of a schedule, a switch to which all of a rack's modules can
-- be wired joins just what the setting's transfers want joined, whatever it was before.
abbrev pub SettingsTurn : Type 0
SettingsTurn =
    (batch : List Transfer) (settings : List (List ℕ)) (modules : ℕ) (wiring : Wiring)
    (switch : Switch) (k : ℕ) → IsBatch batch → IsScheduleOf batch settings
    → HasModulesOf modules batch → modules ≤ room_of wiring → k < length settings
    → after_all (sent_for_first wiring batch settings (k + 1)) switch
    ≡ switch_of wiring (setting_pairs batch (numbers_in settings k))
