use Rattle.std.proofs.Common.{◌≡◌, ◌++◌, take}
use Rattle.module_memory.specs.Bays.{destinations_of}
use Rattle.setting_runner.proofs.ready.push_destinations.Given as goal

abbrev pub invariant-loop-t : goal.invariant-loop-t
invariant-loop-t l = l.places.items ≡ l.fn.places.items ++ destinations_of l.batch (take l.t-index l.numbers)
