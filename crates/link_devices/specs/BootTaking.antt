-- What becomes of a state and of a memory as a byte comes.
use Rattle.std.specs.Prelude.{◌≡◌, ℕ, List, Option, Result, Ok, Err}
use Rattle.peek_poke.specs.Effects.{Feeds}
use Rattle.link_devices.specs.declared.boot_fault.BootFault.{BootFault}
use Rattle.link_devices.specs.declared.boot_fault.BootFault.TheVariants.{NoEnd, Refused}
use Rattle.link_devices.specs.declared.boot_state.BootState.{BootState}
use Rattle.link_devices.specs.Memory.{memory_read, memory_write}
use Rattle.link_devices.specs.BootStates.{IsBootState, pending_of}

-- an end has both states, and takes the byte over the memory from the base on, or refuses it; or no
-- end has the state, and nothing changes
abbrev pub EndTakesByte : ℕ → BootState → List ℕ → ℕ → Result (Option (List ℕ)) BootFault
    → BootState → List ℕ → Type 0
EndTakesByte base old memory byte (Ok reply) new left =
    IsBootState old × IsBootState new
    × Feeds (memory_read base) (memory_write base) (pending_of old) memory byte (Ok reply)
    (pending_of new) left
EndTakesByte base old memory byte (Err (Refused fault)) new left =
    IsBootState old × IsBootState new
    × Feeds (memory_read base) (memory_write base) (pending_of old) memory byte (Err fault)
    (pending_of new) left
EndTakesByte base old memory byte (Err NoEnd) new left =
    (IsBootState old → ⊥) × (new ≡ old) × (left ≡ memory)
