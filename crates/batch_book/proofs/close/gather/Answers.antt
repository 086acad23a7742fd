use Rattle.std.proofs.Common.{◌≤◌, max, List, All, length, sym, ap, ◌∙◌, refl, subst, arith, rules}
use Rattle.std.proofs.lemmas.Iterator.Adapters.{YieldsList-from_vec}
use Rattle.std.proofs.lemmas.Iterator.Consumers.{YieldsList-turn, YieldsList-end}
use Rattle.std.proofs.lemmas.List.{map-id}
use Rattle.std.proofs.lemmas.List.Elements.{All-push}
use Rattle.std.proofs.lemmas.List.Sums.{sum_by_push}
use Rattle.progress_word.specs.Watchers.{WatcherView}
use Rattle.batch_book.specs.Places.{LogAgrees}
use Rattle.batch_book.specs.Seats.{SeatState, AskedAgrees}
use Rattle.batch_book.specs.Recording.{made_in}
use Rattle.batch_book.specs.Values.{greatest}
use Rattle.batch_book.proofs.Seats.{its_word}
use Rattle.batch_book.proofs.close.gather.Goals as goal

pub loop-seat-init : goal.loop-seat-init
loop-seat-init g c =
    let e = c.compared-all.ensures in
    record {
      same = e.keeper;
      asked = λ k d none. absurd (omega arith);
      told = λ k d none. absurd (omega arith);
      word = search rules;
      parts = omega arith;
      amount = omega arith;
      first_seen = omega arith;
      seen = λ k d none. absurd (omega arith);
      raised = e.raised;
    }

pub compared-access-requires : goal.compared-access-requires
compared-access-requires g c =
    let t = YieldsList-turn (YieldsList-from_vec {s = c.into_iter-seat-iterator.result} c.pop.new.self.items (search rules) (search rules)) c.loop-seat.yielded
    c.loop-seat.seat-iterator c.loop-seat.yielded_by c.next.result c.next.new.self c.in-Some-seat.seat c.in-Some-seat.is c.next.ensures.steps in
    let word = its_word c.args.seats.items c.pop.new.self.items c.in-Some.last c.in-Some-seat.seat c.args.word.now _ c.requires.seats c.in-Some.ensures.items
    t.0 t.1 in
    rw word refl

pub join-requires-clause-word : goal.join-requires-clause-word
join-requires-clause-word g c =
    let t = YieldsList-turn (YieldsList-from_vec {s = c.into_iter-seat-iterator.result} c.pop.new.self.items (search rules) (search rules)) c.loop-seat.yielded
    c.loop-seat.seat-iterator c.loop-seat.yielded_by c.next.result c.next.new.self c.in-Some-seat.seat c.in-Some-seat.is c.next.ensures.steps in
    let word = its_word c.args.seats.items c.pop.new.self.items c.in-Some.last c.in-Some-seat.seat c.args.word.now _ c.requires.seats c.in-Some.ensures.items
    t.0 t.1 in
    (c.loop-seat.invariant.word, search rules)

pub loop-seat-preserved : goal.loop-seat-preserved
loop-seat-preserved g c =
    let all = made_in c.args.keeper.now.history in
    let h = c.args.keeper.now.history in
    let i = c.loop-seat.invariant in
    let e = c.compared-access.ensures in
    let j = c.join.ensures in
    let s : SeatState = c.in-Some-seat.seat in
    let ys = c.loop-seat.yielded in
    let asked : AskedAgrees all s = subst (λ l. AskedAgrees (made_in l) s) i.same e.asked in
    let told : LogAgrees h s = subst (λ l. LogAgrees l s) i.same e.told in
    let below = subst (λ l. c.compared-access.result.watcher.raised ≤ max (greatest g.L.ExchangeName.earlier) (greatest (made_in l))) i.same e.raised in
    let seen = ap (λ (o : WatcherView). o.seen) j.watcher in
    let raised = ap (λ (o : WatcherView). o.raised) j.watcher in
    let n = c.join.new.self.watcher.seen in
    record {
      same = e.keeper ∙ i.same;
      asked = All-push (AskedAgrees all) ys s i.asked asked;
      told = All-push (LogAgrees h) ys s i.told told;
      word = ap (λ (o : WatcherView). o.word) j.watcher;
      parts = omega (arith, i.parts, j.parts, e.parts, sum_by_push (λ (s : SeatState). s.parts) ys s);
      amount = omega (arith, i.amount, j.amount, e.amount, sum_by_push (λ (s : SeatState). length s.asked) ys s);
      first_seen = omega (arith, i.first_seen, seen);
      seen = All-push (λ (s : SeatState). s.seen ≤ n) ys s (λ k d lt. omega (arith, i.seen k d lt, seen)) (omega (arith, e.seen, seen));
      raised = omega (arith, i.raised, below, raised);
    }

pub returns-clause-asked : goal.returns-clause-asked
returns-clause-asked g c =
    let is : SeatState → Type 0 = AskedAgrees (made_in c.args.keeper.now.history) in
    let rest = c.pop.new.self.items in
    let end = YieldsList-end (YieldsList-from_vec {s = c.into_iter-seat-iterator.result} rest (search rules) (search rules)) c.loop-seat.yielded
    c.loop-seat.seat-iterator c.loop-seat.yielded_by c.next.result c.next.new.self c.in-None.is c.next.ensures.steps in
    let others : All is rest = subst (λ (l : List SeatState). All is l) (sym (map-id c.loop-seat.yielded) ∙ end.0) c.loop-seat.invariant.asked in
    subst (λ (l : List SeatState). All is l) (sym c.in-Some.ensures.items) (All-push is rest c.in-Some.last others c.compared-all.ensures.asked)

pub returns-clause-told : goal.returns-clause-told
returns-clause-told g c =
    let is : SeatState → Type 0 = LogAgrees c.args.keeper.now.history in
    let rest = c.pop.new.self.items in
    let end = YieldsList-end (YieldsList-from_vec {s = c.into_iter-seat-iterator.result} rest (search rules) (search rules)) c.loop-seat.yielded
    c.loop-seat.seat-iterator c.loop-seat.yielded_by c.next.result c.next.new.self c.in-None.is c.next.ensures.steps in
    let others : All is rest = subst (λ (l : List SeatState). All is l) (sym (map-id c.loop-seat.yielded) ∙ end.0) c.loop-seat.invariant.told in
    subst (λ (l : List SeatState). All is l) (sym c.in-Some.ensures.items) (All-push is rest c.in-Some.last others c.compared-all.ensures.told)

pub returns-clause-seen : goal.returns-clause-seen
returns-clause-seen g c =
    let low : SeatState → Type 0 = λ s. s.seen ≤ c.loop-seat.all.watcher.seen in
    let rest = c.pop.new.self.items in
    let end = YieldsList-end (YieldsList-from_vec {s = c.into_iter-seat-iterator.result} rest (search rules) (search rules)) c.loop-seat.yielded
    c.loop-seat.seat-iterator c.loop-seat.yielded_by c.next.result c.next.new.self c.in-None.is c.next.ensures.steps in
    let others : All low rest = subst (λ (l : List SeatState). All low l) (sym (map-id c.loop-seat.yielded) ∙ end.0) c.loop-seat.invariant.seen in
    subst (λ (l : List SeatState). All low l) (sym c.in-Some.ensures.items)
    (All-push low rest c.in-Some.last others (omega (arith, c.compared-all.ensures.seen, c.loop-seat.invariant.first_seen)))
