use Rattle.std.proofs.Common.{length, subst}
use Rattle.clap.specs.Words.{Text}
use Rattle.std.specs.Prelude.{Option}
use Rattle.module_memory.specs.Images.{image_of}
use Rattle.named_files.specs.Outputs.{IsFileWritten}
use Rattle.recorded_sessions.specs.Records.{record_front}
use Rattle.recorded_sessions.proofs.live.keep_live.Goals as goal

pub returns-clause-written : goal.returns-clause-written
returns-clause-written g c = λ names left machine so.
    let kept = c.end_record-recorded.ensures (length left.history) (record_front names left) so in
    let image = subst (λ (n : Option Text). IsFileWritten g.S.System.received n (image_of c.rack.result.now) c.keep_image-image.result.0
    c.keep_image-image.result.1) c.requires.named c.keep_image-image.ensures.written in
    ((kept.0, rw (c.rack.ensures, machine) at image), kept.1)
