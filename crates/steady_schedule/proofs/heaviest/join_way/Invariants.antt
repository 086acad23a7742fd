use Rattle.std.proofs.Common.{◌≡◌, ◌<◌, None}
use Rattle.batch.specs.declared.limits.TheConstants.{MAX_MODULES}
use Rattle.steady_schedule.specs.Matchings.{partner}
use Rattle.steady_schedule.proofs.heaviest.join_way.Given as goal

abbrev pub invariant-loop : goal.invariant-loop
invariant-loop l = record {
  low : l.three < MAX_MODULES;
  free : partner l.matching.three l.three ≡ None;
}
