-- The bytes that keep an end, and which end they keep. Which they are is this project's choice.
use Rattle.std.specs.Prelude.{◌≡◌, ◌≤◌, ◌==◌, ℕ, List, [], length, take}
use Rattle.peek_poke.specs.Messages.{IsPartial, Pending, rest_after}
use Rattle.link_devices.specs.declared.boot_state.BootState.{BootState}
use Rattle.link_devices.specs.declared.boot_state.TheConstants.{MAX_PARTIAL_MESSAGE}

-- the bytes that have come of the next message
abbrev pub message_begun : BootState → List ℕ
message_begun s = take s.begun_count s.begun

-- the end that the bytes keep. They don't keep what came before the next message.
abbrev pub pending_of : BootState → Pending
pending_of s = record { failed = s.failed == 1; bytes = message_begun s; taken = [] }

-- an end to which nothing has come
abbrev pub new_boot_end : Pending
new_boot_end = rest_after []

-- an end has this state
pub record IsBootState (s : BootState) : Type 0 where
  pub room : length s.begun ≡ MAX_PARTIAL_MESSAGE
  pub most : s.begun_count ≤ MAX_PARTIAL_MESSAGE
  pub partial : IsPartial (message_begun s)
  pub failed : s.failed ≤ 1
