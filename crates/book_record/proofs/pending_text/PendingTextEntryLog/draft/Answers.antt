use Rattle.std.proofs.Common.{◌∙◌, sym, append-nil}
use Rattle.book_record.proofs.Streams.{still_held}
use Rattle.book_record.proofs.pending_text.PendingTextEntryLog.draft.Goals as goal

pub invariant_of-self : goal.invariant_of-self
invariant_of-self c = (
  (still_held _ _ _ _ _ _ _ c.self.invariant.0 c.truncate.ensures.items (c.in_err-push_asked.ensures.none ∙ sym (append-nil _))).0,
  c.self.invariant.1,
)

pub invariant_of-self-2 : goal.invariant_of-self-2
invariant_of-self-2 c = ((still_held _ _ _ _ _ _ _ c.self.invariant.0 c.truncate.ensures.items c.in_ok-push_asked.ensures.put).0, c.self.invariant.1)
