use Rattle.std.proofs.Common.{◌≡◌, ◌+◌, ◌≤◌, max, All}
use Rattle.batch_book.specs.Recording.{made_in}
use Rattle.batch_book.specs.Places.{LogAgrees}
use Rattle.batch_book.specs.Seats.{AskedAgrees, entries_of, parts_of}
use Rattle.batch_book.specs.Values.{greatest}
use Rattle.batch_book.proofs.close.gather.Given as goal

abbrev pub invariant-loop-seat : goal.invariant-loop-seat
invariant-loop-seat g l = record {
  same : l.keeper.history ≡ l.fn.keeper.history;
  asked : All (AskedAgrees (made_in l.fn.keeper.history)) l.yielded;
  told : All (LogAgrees l.fn.keeper.history) l.yielded;
  word : l.all.watcher.word ≡ l.word;
  parts : l.all.parts ≡ l.initial.all.parts + parts_of l.yielded;
  amount : l.all.share.amount ≡ l.initial.all.share.amount + entries_of l.yielded;
  first_seen : l.initial.all.watcher.seen ≤ l.all.watcher.seen;
  seen : All (λ s. s.seen ≤ l.all.watcher.seen) l.yielded;
  raised : l.all.watcher.raised ≤ max (greatest g.L.ExchangeName.earlier) (greatest (made_in l.fn.keeper.history));
}
