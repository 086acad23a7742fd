use Rattle.std.proofs.Common.{◌+◌, ◌*◌, ◌≤◌}
use Rattle.batch.specs.declared.limits.TheConstants.{MAX_MODULES}
use Rattle.schedule_certificate.proofs.PutBack.{ArePutBack}
use Rattle.schedule_certificate.proofs.halving.put_back.Given as goal

abbrev pub invariant-loop-t : goal.invariant-loop-t
invariant-loop-t l = ArePutBack l.initial.table l.class l.t-index l.table
    × (l.steps ≤ l.fn.steps + l.t-index * (3 * l.initial.table.colours + 2 * MAX_MODULES + 1))
