use Rattle.std.proofs.Common.{◌∙◌, Some, ap, refl}
use Rattle.named_files.proofs.Written.{named_written}
use Rattle.named_files.proofs.outputs.keep_file.Goals as goal

pub returns : goal.returns
returns g c = λ wanted are.
    let opened = rw c.in-Some.is at c.requires in
    let wrote = c.write_new-end.ensures c.in-Some.field-0.name.now wanted (opened.2 ∙ ap Some opened.1) are in
    rw c.in-Some.is (named_written g.S.System.received (Some c.in-Some.field-0.name.now) wanted c.put_written-receipt.result.0 c.why.result
    c.write_new-end.result c.put_written-receipt.result.1 _ refl wrote c.put_written-receipt.ensures.received c.put_written-receipt.ensures.cut
    c.why.ensures)
