use Rattle.std.proofs.Common.{take}
use Rattle.named_files.specs.DistinctFiles.{HaveNoClash}
use Rattle.named_files.proofs.distinct_files.look_through.Given as goal

abbrev pub invariant-loop-i : goal.invariant-loop-i
invariant-loop-i g l = HaveNoClash (g.S.PathLookup.leads l.system) (take l.i l.files)
