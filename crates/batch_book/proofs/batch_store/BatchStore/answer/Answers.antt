use Rattle.std.proofs.Common.{rules}
use Rattle.batch_book.proofs.batch_store.BatchStore.answer.Goals as goal

pub returns-in-Settle-clause-step : goal.returns-in-Settle-clause-step
returns-in-Settle-clause-step g c = search rules
