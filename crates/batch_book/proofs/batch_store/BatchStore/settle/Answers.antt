use Rattle.std.proofs.Common.{rules}
use Rattle.batch_book.proofs.Entries.{kept_at_stage}
use Rattle.batch_book.proofs.batch_store.BatchStore.settle.Goals as goal

pub invariant_of-self : goal.invariant_of-self
invariant_of-self c = rw c.bring.ensures (kept_at_stage _ _ _ _ _ c.self.invariant)

pub returns-in-Waiting-clause-step : goal.returns-in-Waiting-clause-step
returns-in-Waiting-clause-step c = search rules

pub returns-in_default-stage-clause-step : goal.returns-in_default-stage-clause-step
returns-in_default-stage-clause-step c = search rules
