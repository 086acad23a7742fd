use Rattle.named_files.proofs.Told.{begun}
use Rattle.named_files.proofs.notes.tell_line.Goals as goal

pub returns : goal.returns
returns g c = begun c.write_bytes.result _ _ _ c.write_bytes.ensures.went c.write_bytes.ensures.cut
