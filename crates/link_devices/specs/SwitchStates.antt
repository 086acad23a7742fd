-- The bytes that keep a switch, and which switch they keep. Which they are is this project's
-- choice.
use Rattle.std.specs.Prelude.{◌≡◌, ◌≤◌, ◌<◌, ◌==◌, ℕ, List, [], IsTrue, length, map, take}
use Rattle.std.specs.Prelude.{slice_index}
use Rattle.std.specs.List.{list_all}
use Rattle.c004_commands.specs.Commands.{IsCommandFront}
use Rattle.c004_commands.specs.declared.port.TheConstants.{PORTS}
use Rattle.crossbar.specs.Latches.{sources_of}
use Rattle.crossbar.specs.Switch.{idle}
use Rattle.link_devices.specs.End.{EndState}
use Rattle.link_devices.specs.declared.switch_state.SwitchState.{SwitchState}
use Rattle.link_devices.specs.declared.switch_state.TheConstants.{MAX_PARTIAL_COMMAND}
use Rattle.link_devices.specs.SwitchBytes.{is_answer, input_of}

-- the bytes that have come of the next command
abbrev pub command_begun : SwitchState → List ℕ
command_begun s = take s.begun_count s.begun

-- the switch that the bytes keep, and what has come of its next command
abbrev pub kept_end : SwitchState → EndState
kept_end s =
    record {
      switch =
          record {
            sources = sources_of (map input_of s.outputs);
            ready = s.connecting == 0;
          };
      begun = command_begun s;
    }

-- a switch as after a reset, to which nothing has come
abbrev pub new_switch_end : EndState
new_switch_end = record { switch = idle; begun = [] }

-- so many bytes may have come of a command, and after them stand zeros
pub record HasZerosAfter (count : ℕ) (bytes : List ℕ) : Type 0 where
  pub most : count ≤ MAX_PARTIAL_COMMAND
  pub zeros : (k : ℕ) → count ≤ k → k < MAX_PARTIAL_COMMAND → slice_index bytes k ≡ 0

-- a switch has this state
pub record IsSwitchState (s : SwitchState) : Type 0 where
  pub all_outputs : length s.outputs ≡ PORTS
  pub answers : IsTrue (list_all is_answer s.outputs)
  pub room : length s.begun ≡ MAX_PARTIAL_COMMAND
  pub begun : IsCommandFront (command_begun s)
  pub behind : HasZerosAfter s.begun_count s.begun
  pub connecting : s.connecting ≤ 1
