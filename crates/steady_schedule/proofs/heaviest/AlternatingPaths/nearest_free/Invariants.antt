use Rattle.std.proofs.Common.{◌<◌}
use Rattle.batch.specs.declared.limits.TheConstants.{MAX_MODULES}
use Rattle.steady_schedule.proofs.heaviest.AlternatingPaths.nearest_free.Given as goal

abbrev pub invariant-looks : goal.invariant-looks
invariant-looks l = l.zero < MAX_MODULES

abbrev pub decreases-looks : goal.decreases-looks
decreases-looks l = l.looks
