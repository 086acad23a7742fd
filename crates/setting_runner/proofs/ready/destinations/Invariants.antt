use Rattle.std.proofs.Common.{◌≡◌, take}
use Rattle.std.specs.List.{concat}
use Rattle.module_memory.specs.Bays.{destinations_of}
use Rattle.setting_runner.proofs.ready.destinations.Given as goal

abbrev pub invariant-loop-k : goal.invariant-loop-k
invariant-loop-k l = l.places.items ≡ destinations_of l.batch (concat (take l.k l.schedule))
