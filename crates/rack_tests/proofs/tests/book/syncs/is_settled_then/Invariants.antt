use Rattle.std.proofs.Common.{◌≡◌}
use Rattle.rack_tests.proofs.tests.book.syncs.is_settled_then.Given as goal

abbrev pub invariant-loop : goal.invariant-loop
invariant-loop g l = l.seat.exchange ≡ l.fn.seat.exchange
