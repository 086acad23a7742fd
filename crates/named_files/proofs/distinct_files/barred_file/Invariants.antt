use Rattle.std.proofs.Common.{take}
use Rattle.std.specs.Prelude.{All}
use Rattle.named_files.specs.DistinctFiles.{IsOther}
use Rattle.named_files.proofs.distinct_files.barred_file.Given as goal

abbrev pub invariant-loop-file : goal.invariant-loop-file
invariant-loop-file g l = All (IsOther (g.S.PathLookup.leads l.system) l.file_id) (take l.file-index l.files)
