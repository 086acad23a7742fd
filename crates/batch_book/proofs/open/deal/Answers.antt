use Rattle.std.proofs.Common.{◌≡◌, ℕ, ◌+◌, ◌-◌, ◌≤◌, List, [], false, ap, ap₂, sym, ◌∙◌, subst, arith}
use Rattle.std.proofs.lemmas.Grind.{common_steps}
use Rattle.progress_word.specs.declared.limits.TheConstants.{ALL_PARTS}
use Rattle.progress_word.specs.Watchers.{WatcherView, watcher_view}
use Rattle.batch_book.specs.Seats.{SeatState, open_seat}
use Rattle.batch_book.specs.Exchanges.{new_seat}
use Rattle.batch_book.proofs.Dealing.{AreDealt, none_dealt, dealt_more, all_dealt, later_seat}
use Rattle.batch_book.proofs.open.deal.Goals as goal

pub loop-session-init : goal.loop-session-init
loop-session-init g c =
    let word = c.args.word.now in
    let start = c.args.first.watcher.seen in
    let parts : ALL_PARTS ≡ c.args.first.parts = omega (arith, ap (λ (o : WatcherView). o.parts) c.requires.first, c.args.first.of_word) in
    record {
      room = c.requires.room;
      parts = omega (arith, parts);
      watcher = c.requires.first ∙ ap (λ (n : ℕ). watcher_view word start c.args.first.watcher.raised n) parts;
      amount = c.requires.amount;
      history = c.deal-own.ensures.history;
      next = omega (arith, c.deal-own.ensures.dealt, c.requires.none_dealt);
      dealt = subst (λ (l : List SeatState). AreDealt word start 1 l) (sym c.requires.empty) (none_dealt word start);
    }

pub loop-session-preserved : goal.loop-session-preserved
loop-session-preserved g c =
    let word = c.args.word.now in
    let start = c.args.first.watcher.seen in
    let session = c.loop-session.session in
    let inv = c.loop-session.invariant in
    let split = c.split.ensures in
    let less : c.loop-session.first.parts - 1 ≡ c.split.new.self.parts = omega (arith, split.parts.0) in
    let kept = rw inv.watcher at split.kept in
    let given = rw inv.watcher at split.given in
    record {
      room = grind (arith, common_steps);
      parts = omega (arith, split.parts.0, inv.parts);
      watcher = kept ∙ ap (λ (n : ℕ). watcher_view word start c.args.first.watcher.raised n) less;
      amount = split.amount ∙ inv.amount;
      history = c.deal.ensures.history;
      next = omega (arith, c.deal.ensures.dealt, inv.next);
      dealt = dealt_more word start session c.loop-session.seats.items c.push.new.self.items c.new-seat.result
          (rw c.unwrap.ensures at c.push.ensures.items)
          (c.new-seat.ensures ∙ ap₂ (λ (o : WatcherView) (n : ℕ). open_seat o session [] [] n false) given split.parts.1
          ∙ later_seat word start session (omega arith))
          inv.dealt;
    }

pub returns-clause-seats : goal.returns-clause-seats
returns-clause-seats g c =
    let word = c.args.word.now in
    let start = c.args.first.watcher.seen in
    let sessions = c.args.sessions in
    let inv = c.loop-session.invariant in
    let end : c.loop-session.session ≡ sessions = omega arith in
    let left : c.loop-session.first.parts ≡ ALL_PARTS + 1 - sessions = omega (arith, inv.parts) in
    let few : sessions ≤ ALL_PARTS = omega (arith, c.requires.few) in
    all_dealt word start sessions c.loop-session.seats.items c.insert.new.self.items c.new-seat-2.result
    (rw c.unwrap-2.ensures at c.insert.ensures.items)
    (c.new-seat-2.ensures ∙ ap (λ (o : WatcherView). open_seat o 0 [] [] c.loop-session.first.parts false) inv.watcher
    ∙ ap (λ (r : ℕ). open_seat (watcher_view word start r c.loop-session.first.parts) 0 [] [] c.loop-session.first.parts false) (sym c.requires.seen)
    ∙ ap (λ (n : ℕ). new_seat word start 0 n) left)
    few (subst (λ (n : ℕ). AreDealt word start n c.loop-session.seats.items) end inv.dealt)

pub returns-clause-dealt : goal.returns-clause-dealt
returns-clause-dealt g c =
    let end : c.loop-session.session ≡ c.args.sessions = omega arith in
    c.loop-session.invariant.next ∙ end

pub unwrap-requires-2 : goal.unwrap-requires-2
unwrap-requires-2 g c = grind (arith, common_steps)
