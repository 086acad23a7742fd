-- The last line of a drive. The texts are this project's choice.
use Rattle.std.specs.Prelude.{◌≡◌, ℕ, List, ◌++◌, codes}
use Rattle.std.specs.Fmt.{decimal}
use Rattle.plan_answers.specs.Refusals.{Printed}
use Rattle.plan_answers.specs.declared.limits.TheConstants.{DONE, REFUSED}
use Rattle.switch_driver.specs.declared.driving.DriveOutcome.{DriveOutcome}
use Rattle.switch_driver.specs.declared.driving.DriveOutcome.TheVariants.{Completed, Stopped}
use Rattle.switch_driver.specs.declared.driving.DriveOutcome.TheVariants.{Halted}
use Rattle.switch_driver.specs.declared.drive_observer.Halt.TheVariants.{Left, Unheard, Untold}
use Rattle.switch_settings.specs.declared.fault.SettingFault.{SettingFault}
use Rattle.switch_settings.specs.declared.fault.SettingFault.TheVariants.{Port, Switch}
use Rattle.switch_settings.specs.Answers.{number_of}

-- why a setting couldn't be set
abbrev pub fault_words : SettingFault → List ℕ
fault_words Port = codes "port"
fault_words (Switch found) = codes "switch " ++ decimal (number_of found)

-- all settings stood
abbrev pub completed_line : ℕ → List ℕ
completed_line settings = codes "driven settings " ++ decimal settings ++ codes "\n"

-- it stopped at a setting
abbrev pub stopped_line : ℕ → List ℕ → List ℕ
stopped_line k why = codes "stopped setting " ++ decimal k ++ codes " " ++ why ++ codes "\n"

-- a setting stands, and no other was wanted
abbrev pub left_line : ℕ → List ℕ
left_line k = codes "left setting " ++ decimal k ++ codes "\n"

-- the line of an end, under its status; a setting that couldn't be told has none
abbrev pub IsEnding : DriveOutcome → Printed → Type 0
IsEnding (Completed count) printed =
    (printed.text ≡ completed_line count) × (printed.status ≡ DONE)
IsEnding (Stopped k fault) printed =
    (printed.text ≡ stopped_line k (fault_words fault)) × (printed.status ≡ REFUSED)
IsEnding (Halted k Left) printed = (printed.text ≡ left_line k) × (printed.status ≡ REFUSED)
IsEnding (Halted k Unheard) printed =
    (printed.text ≡ stopped_line k (codes "input")) × (printed.status ≡ REFUSED)
IsEnding (Halted k Untold) printed = ⊥
