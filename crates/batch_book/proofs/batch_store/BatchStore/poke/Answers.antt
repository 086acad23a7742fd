use Rattle.std.proofs.Common.{rules}
use Rattle.batch_book.proofs.batch_store.BatchStore.poke.Goals as goal

pub returns-clause-step : goal.returns-clause-step
returns-clause-step c = search rules
