use Rattle.std.proofs.Common.{refl}
use Rattle.book_record.proofs.Streams.{none_held}
use Rattle.book_record.proofs.pending_text.PendingText.resume_after.Goals as goal

pub invariant_of-result : goal.invariant_of-result
invariant_of-result c = (none_held _ _ _ _ c.of-queued.ensures refl, c.requires)
