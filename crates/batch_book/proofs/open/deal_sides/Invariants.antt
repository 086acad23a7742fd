use Rattle.std.proofs.Common.{◌≡◌, []}
use Rattle.batch_book.proofs.open.deal_sides.Given as goal

abbrev pub invariant-loop-list : goal.invariant-loop-list
invariant-loop-list g l = (l.keeper.history ≡ []) × (l.keeper.dealt ≡ l._list)
