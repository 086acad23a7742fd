use Rattle.std.proofs.Common.{◌≡◌, length}
use Rattle.batch.specs.declared.limits.TheConstants.{MAX_RACK_BLOCKS}
use Rattle.module_memory.proofs.Repeats.{HaveCome}
use Rattle.module_memory.proofs.lendable.first_repeated.Given as goal

abbrev pub invariant-loop-i : goal.invariant-loop-i
invariant-loop-i l = record {
  size : length l.taken ≡ MAX_RACK_BLOCKS;
  come : HaveCome l.places l.i l.taken;
}
