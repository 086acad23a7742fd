-- Why a run stops where the switches of its rack can't be set.
use Rattle.setting_runner.specs.declared.outcome.StopCause.{StopCause}
use Rattle.setting_runner.specs.declared.outcome.StopCause.TheVariants.{Port, SwitchDisagrees}
use Rattle.switch_settings.specs.Answers.{number_of}
use Rattle.switch_settings.specs.declared.fault.SettingFault.{SettingFault}
use Rattle.switch_settings.specs.declared.fault.SettingFault.TheVariants as fault

-- for the same reason
abbrev pub cause_of : SettingFault → StopCause
cause_of fault.Port = Port
cause_of (fault.Switch found) = SwitchDisagrees (number_of found)
