use Rattle.std.proofs.Common.{ap}
use Rattle.book_record.proofs.Streams.{appended, torn}
use Rattle.book_record.proofs.stream_recorder.StreamRecorderRecorder.append.Goals as goal

pub invariant_of-self : goal.invariant_of-self
invariant_of-self g c =
    let whole = rw (← c.self.view_is) at c.requires.whole in
    let first = rw (← c.self.view_is) at c.requires.first in
    let text = rw (← c.self.view_is) at c.requires.text in
    appended _ _ _ _ _ _ _ _ _ _ _ _ c.self.invariant whole first text c.in-Ok.ensures.ok (ap (λ s. s.value.value) c.of-in-Ok.ensures)
    (ap (λ s. s.value.value) c.of.ensures)

pub invariant_of-self-in-Err : goal.invariant_of-self-in-Err
invariant_of-self-in-Err g c =
    let whole = rw (← c.self.view_is) at c.requires.whole in
    let first = rw (← c.self.view_is) at c.requires.first in
    let text = rw (← c.self.view_is) at c.requires.text in
    torn _ _ _ _ _ _ _ _ _ _ c.self.invariant whole first text c.in-Err.ensures.err (ap (λ s. s.value.value) c.of.ensures)
