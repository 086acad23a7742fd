use Rattle.std.proofs.Common.{rules}
use Rattle.batch_book.proofs.batch_store.owned_by.Goals as goal

pub returns-in-Some : goal.returns-in-Some
returns-in-Some c = search rules
