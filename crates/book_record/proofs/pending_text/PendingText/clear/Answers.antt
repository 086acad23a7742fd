use Rattle.std.proofs.Common.{refl}
use Rattle.book_record.proofs.Streams.{none_held}
use Rattle.book_record.proofs.pending_text.PendingText.clear.Goals as goal

pub invariant_of-self : goal.invariant_of-self
invariant_of-self c = (none_held _ _ _ _ c.of.ensures refl, c.self.invariant.1)
