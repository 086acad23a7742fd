use Rattle.std.proofs.Common.{rules}
use Rattle.batch_book.proofs.batch_store.BatchStore.end.Goals as goal

pub returns-in-Stopped : goal.returns-in-Stopped
returns-in-Stopped c = search rules

pub returns-in-Refused-NoMemory : goal.returns-in-Refused-NoMemory
returns-in-Refused-NoMemory c = search rules

pub returns-in-Refused : goal.returns-in-Refused
returns-in-Refused c = search rules
