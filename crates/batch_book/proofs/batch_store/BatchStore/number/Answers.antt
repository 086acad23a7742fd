use Rattle.std.proofs.Common.{rules}
use Rattle.batch_book.proofs.Entries.{kept_at_stage}
use Rattle.batch_book.proofs.batch_store.BatchStore.number.Goals as goal

pub invariant_of-self : goal.invariant_of-self
invariant_of-self c = rw c.bring.ensures (kept_at_stage _ _ _ _ _ c.self.invariant)

pub returns-clause-number : goal.returns-clause-number
returns-clause-number c = search rules
