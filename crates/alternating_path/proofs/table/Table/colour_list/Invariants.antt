use Rattle.std.proofs.Common.{◌+◌, ◌*◌, ◌≤◌, length}
use Rattle.batch.specs.declared.limits.TheConstants.{MAX_MODULES}
use Rattle.alternating_path.proofs.Noted.{AreListed}
use Rattle.alternating_path.proofs.table.Table.colour_list.Given as goal

abbrev pub invariant-loop-colour : goal.invariant-loop-colour
invariant-loop-colour l = AreListed l.self.colour l.list.items l.colour × (l.steps ≤ l.fn.steps + length l.self.batch + MAX_MODULES * l.colour)
