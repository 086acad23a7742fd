use Rattle.std.proofs.Common.{rules}
use Rattle.batch_book.proofs.batch_store.BatchStore.show.Goals as goal

pub returns-in-Some-clause-step : goal.returns-in-Some-clause-step
returns-in-Some-clause-step c = search rules
