use Rattle.std.proofs.Common.{rules}
use Rattle.batch_book.proofs.book.Book.rack.Goals as goal

pub returns : goal.returns
returns g c = search rules
