use Rattle.std.proofs.Common.{rules}
use Rattle.batch_book.proofs.seat.Seat.parts.Goals as goal

pub returns-in-Some-clause-parts : goal.returns-in-Some-clause-parts
returns-in-Some-clause-parts g c = search rules
