use Rattle.std.specs.Prelude.{[]}
use Rattle.named_files.proofs.Written.{left_new}
use Rattle.named_files.proofs.outputs.leave_file.Goals as goal

pub returns-clause-written : goal.returns-clause-written
returns-clause-written g c = λ wanted.
    left_new g.S.Stream.Write.contents g.S.System.received c.args.out c.in-Some.field-0 wanted c.close.result c.of-lost.result c.in-Some.is c.requires
    c.close.ensures

pub returns-clause-unput : goal.returns-clause-unput
returns-clause-unput g c =
    (rw c.in-Some.is at (left_new g.S.Stream.Write.contents g.S.System.received c.args.out c.in-Some.field-0 [] c.close.result c.of-lost.result c.in-Some.is
    c.requires c.close.ensures)).1
