use Rattle.std.proofs.Common.{◌≡◌, ◌+◌, ◌≤◌, [], vec_capacity}
use Rattle.progress_word.specs.declared.limits.TheConstants.{ALL_PARTS}
use Rattle.progress_word.specs.Watchers.{watcher_view}
use Rattle.batch_book.proofs.Dealing.{AreDealt}
use Rattle.batch_book.proofs.open.deal.Given as goal

abbrev pub invariant-loop-session : goal.invariant-loop-session
invariant-loop-session g l = record {
  room : l.sessions ≤ vec_capacity l.seats;
  parts : l.first.parts + l.session ≡ ALL_PARTS + 1;
  watcher : l.first.watcher ≡ watcher_view l.word l.fn.first.watcher.seen l.fn.first.watcher.raised l.first.parts;
  amount : l.first.share.amount ≡ 0;
  history : l.keeper.history ≡ [];
  next : l.keeper.dealt ≡ l.session;
  dealt : AreDealt l.word l.fn.first.watcher.seen l.session l.seats.items;
}
