-- A module of a rack as a store. This project's choice.
use Rattle.std.specs.Prelude.{ℕ, Option, Some, None, Result, Ok, Err}
use Rattle.module_memory.specs.declared.fault.MemoryFault.{MemoryFault}
use Rattle.module_memory.specs.declared.fault.MemoryFault.TheVariants.{NoModule as RackNoModule}
use Rattle.module_memory.specs.declared.fault.MemoryFault.TheVariants.{Misaligned as RackMisaligned}
use Rattle.module_memory.specs.declared.fault.MemoryFault.TheVariants.{Outside as RackOutside}
use Rattle.module_memory.specs.Address.{fault_of, word_at, write_at}
use Rattle.peek_poke.specs.declared.fault.StoreFault.{StoreFault}
use Rattle.peek_poke.specs.declared.fault.StoreFault.TheVariants.{Misaligned, Outside}
use Rattle.peek_poke.specs.Housed.{Housed}

-- the fault of a store whose rack has no such word. A window's module is there, so the first case
-- doesn't come.
abbrev pub store_fault : MemoryFault → StoreFault
store_fault RackNoModule = Outside
store_fault RackMisaligned = Misaligned
store_fault RackOutside = Outside

-- the value, unless there is a fault
abbrev pub unless : {T : Type 0} → Option MemoryFault → T → Result T StoreFault
unless None x = Ok x
unless (Some fault) x = Err (store_fault fault)

-- what reads of a module give
abbrev pub window_read : Housed → ℕ → Result ℕ StoreFault
window_read h a = unless (fault_of h.store.shape h.number a) (word_at h.store h.number a)

-- what writes to a module leave
abbrev pub window_write : Housed → ℕ → ℕ → Result Housed StoreFault
window_write h a w =
    unless (fault_of h.store.shape h.number a)
    (record { store = write_at h.store h.number a w; number = h.number })
