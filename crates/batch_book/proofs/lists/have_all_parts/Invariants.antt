use Rattle.std.proofs.Common.{◌≡◌, ◌<◌, take}
use Rattle.batch_book.specs.Seats.{parts_of}
use Rattle.batch_book.proofs.lists.have_all_parts.Given as goal

abbrev pub invariant-loop-seat : goal.invariant-loop-seat
invariant-loop-seat g l = (l.total ≡ parts_of (take l.seat-index l.seats)) × (l.total < 16)
