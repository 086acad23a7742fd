use Rattle.std.proofs.Common.{map, take}
use Rattle.named_files.specs.Contents.{AreRead, HasReadOnce}
use Rattle.named_files.proofs.contents.read_files.Given as goal

abbrev pub invariant-loop-name : goal.invariant-loop-name
invariant-loop-name g l =
    AreRead (g.S.System.holds l.system) (g.I.Read.remaining l.fn.input) (take l.name-index l.names) (map (λ file. file.items) l.files.items)
    (g.I.Read.remaining l.input) ×
    HasReadOnce (take l.name-index l.names) (g.S.System.were_read l.fn.reads) (g.S.System.were_read l.reads)
