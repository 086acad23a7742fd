use Rattle.std.proofs.Common.{Some, [], sym}
use Rattle.named_files.proofs.Written.{unwritten, written_behind}
use Rattle.named_files.proofs.outputs.write_new.Goals as goal

pub returns : goal.returns
returns g c = λ name wanted begun are.
    rw (sym (rw c.in_ok-bytes.was at are))
    (written_behind c.write_bytes.result (Some name) _ _ [] _ begun (rw c.as_slice.ensures.value at c.write_bytes.ensures.went)
    (rw c.as_slice.ensures.value at c.write_bytes.ensures.cut))

pub returns-in_err-bytes : goal.returns-in_err-bytes
returns-in_err-bytes g c = λ name wanted begun are. unwritten c.from_residual.result _ wanted _ c.from_residual.ensures.1 begun
