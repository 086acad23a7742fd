use Rattle.std.proofs.Common.{rules}
use Rattle.batch_book.proofs.Entries.{kept_removed}
use Rattle.batch_book.proofs.batch_store.BatchStore.discard.Goals as goal

pub invariant_of-self : goal.invariant_of-self
invariant_of-self c = rw c.shift_remove.ensures.entries (kept_removed _ _ _ _ c.self.invariant)

pub returns-clause-step : goal.returns-clause-step
returns-clause-step c = search rules
