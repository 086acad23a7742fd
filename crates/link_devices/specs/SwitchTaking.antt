-- What becomes of a state that is handed a byte.
use Rattle.std.specs.Prelude.{◌≡◌, ℕ, [], Option, Result, Ok, Err}
use Rattle.std.specs.Option.{option_to_list}
use Rattle.c004_commands.specs.Faults.{IsFault}
use Rattle.link_devices.specs.End.{HasTaken}
use Rattle.link_devices.specs.declared.switch_fault.TakeFault.{TakeFault}
use Rattle.link_devices.specs.declared.switch_fault.TakeFault.TheVariants.{NoSwitch, Byte}
use Rattle.link_devices.specs.declared.switch_state.SwitchState.{SwitchState}
use Rattle.link_devices.specs.SwitchStates.{IsSwitchState, kept_end}

-- a switch has both states, and it has taken the byte, with this reply or none; or the byte can't
-- stand there, and nothing changes but that the command which was begun is dropped; or no switch
-- has this state, and it stays
abbrev pub SwitchTakesByte : SwitchState → ℕ → Result (Option ℕ) TakeFault → SwitchState → Type 0
SwitchTakesByte old byte (Ok reply) new =
    IsSwitchState old × IsSwitchState new × HasTaken (kept_end old) byte (option_to_list reply)
    (kept_end new)
SwitchTakesByte old byte (Err (Byte fault)) new =
    IsSwitchState old × IsSwitchState new × IsFault (kept_end old).begun byte fault
    × (kept_end new ≡ record { switch = (kept_end old).switch; begun = [] })
SwitchTakesByte old byte (Err NoSwitch) new = (IsSwitchState old → ⊥) × (new ≡ old)
