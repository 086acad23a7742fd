use Rattle.std.proofs.Common.{false, take}
use Rattle.std.specs.Prelude.{All}
use Rattle.named_files.specs.DistinctFiles.{IsSeen}
use Rattle.named_files.proofs.distinct_files.look_at.Given as goal

abbrev pub invariant-loop-other : goal.invariant-loop-other
invariant-loop-other g l = All (λ other. IsSeen (g.S.PathLookup.leads l.system) other l.file false) (take l.other-index l.others)
