use Rattle.std.proofs.Common.{◌∙◌, ap}
use Rattle.book_record.proofs.Streams.{begins}
use Rattle.book_record.proofs.stream_recorder.StreamRecorder.resume_after.Goals as goal

pub invariant_of-result : goal.invariant_of-result
invariant_of-result g c =
    let seen = ap (λ s. s.value) c.of-seen.ensures ∙ c.of.ensures in
    begins _ _ _ _ _ _ c.requires.held c.requires.earlier (ap (λ s. s.value.value) c.of-2.ensures ∙ seen) (ap (λ s. s.value.value) c.of-3.ensures ∙ seen)
