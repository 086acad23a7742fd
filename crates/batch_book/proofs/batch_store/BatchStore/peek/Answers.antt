use Rattle.std.proofs.Common.{rules}
use Rattle.batch_book.proofs.batch_store.BatchStore.peek.Goals as goal

pub returns-in-Ok-clause-step : goal.returns-in-Ok-clause-step
returns-in-Ok-clause-step c = search rules
