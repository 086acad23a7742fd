-- What a switch is asked of its ports.
use Rattle.std.specs.Prelude.{◌≡◌, ◌<◌, ◌≤◌, ◌⊎◌, ◌↔◌, ℕ, Bool, Option, Some, Result, Ok, Err}
use Rattle.std.specs.Prelude.{IsTrue}
use Rattle.std.specs.FinMap.{get}
use Rattle.c004_commands.specs.declared.port.TheConstants.{PORTS}
use Rattle.crossbar.specs.Switch.{Switch}
use Rattle.link_devices.specs.declared.switch_fault.AskFault.{AskFault}
use Rattle.link_devices.specs.declared.switch_fault.AskFault.TheVariants.{NoSwitch, NoPort}
use Rattle.link_devices.specs.declared.switch_state.SwitchState.{SwitchState}
use Rattle.link_devices.specs.SwitchStates.{IsSwitchState, kept_end}

-- a switch has the state, and the input feeds its output, or none does; or there is no such output;
-- or no switch has the state
abbrev pub AnswersSource : SwitchState → ℕ → Result (Option ℕ) AskFault → Type 0
AnswersSource s output (Ok source) =
    IsSwitchState s × (output < PORTS) × (source ≡ get (kept_end s).switch.sources output)
AnswersSource s output (Err NoPort) = IsSwitchState s × (PORTS ≤ output)
AnswersSource s output (Err NoSwitch) = IsSwitchState s → ⊥

-- the two links feed each other, and the switch is ready
pub record AreJoinedLinks (switch : Switch) (link other : ℕ) : Type 0 where
  pub ready : IsTrue switch.ready
  pub fed : get switch.sources link ≡ Some other
  pub feeds : get switch.sources other ≡ Some link

-- a switch has the state, and the answer says whether it joins two links; or one of them isn't
-- there; or no switch has the state
abbrev pub AnswersJoined : SwitchState → ℕ → ℕ → Result Bool AskFault → Type 0
AnswersJoined s link other (Ok joined) =
    IsSwitchState s × (link < PORTS) × (other < PORTS)
    × (IsTrue joined ↔ AreJoinedLinks (kept_end s).switch link other)
AnswersJoined s link other (Err NoPort) = IsSwitchState s × ((PORTS ≤ link) ⊎ (PORTS ≤ other))
AnswersJoined s link other (Err NoSwitch) = IsSwitchState s → ⊥
