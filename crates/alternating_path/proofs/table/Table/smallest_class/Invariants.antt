use Rattle.std.proofs.Common.{◌≡◌, ◌+◌, ◌*◌, ◌≤◌}
use Rattle.batch.specs.declared.limits.TheConstants.{MAX_MODULES}
use Rattle.alternating_path.specs.Classes.{class_size}
use Rattle.alternating_path.proofs.Smallest.{IsLeastBelow}
use Rattle.alternating_path.proofs.table.Table.smallest_class.Given as goal

abbrev pub invariant-loop-colour : goal.invariant-loop-colour
invariant-loop-colour l = record {
  so_far : IsLeastBelow l.self l.colour l.smallest;
  cost : l.steps ≤ l.fn.steps + MAX_MODULES * l.colour;
  size_is : l.least ≡ class_size l.self.colour l.smallest;
}
