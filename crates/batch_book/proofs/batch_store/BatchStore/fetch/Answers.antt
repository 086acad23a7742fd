use Rattle.std.proofs.Common.{rules}
use Rattle.batch_book.proofs.batch_store.BatchStore.fetch.Goals as goal

pub returns-in_ok-copy-in-Some-clause-step : goal.returns-in_ok-copy-in-Some-clause-step
returns-in_ok-copy-in-Some-clause-step c = search rules
