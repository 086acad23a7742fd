use Rattle.steady_schedule.specs.Covers.{AreFree, KeepsPartners}
use Rattle.steady_schedule.specs.Searches.{JoinsNear}
use Rattle.steady_schedule.proofs.matching.join_free.Given as goal

abbrev pub invariant-loop-zero : goal.invariant-loop-zero
invariant-loop-zero l = record {
  joins : JoinsNear l.near l.initial.matching.zero l.matching.zero;
  zero : KeepsPartners l.initial.matching.zero l.matching.zero;
  three : KeepsPartners l.initial.matching.three l.matching.three;
  free : AreFree l.matching.three l.free;
}
