use Rattle.std.proofs.Common.{◌≡◌, ◌≤◌, ◌+◌, ◌∙◌, ◌++◌, All, length, List, ap, append_assoc, max, sym, subst, take, slice_index_or, arith}
use Rattle.batch_book.specs.declared.entry.Entry.{Entry}
use Rattle.batch_book.specs.History.{AreUnstopped, IsPrefix}
use Rattle.batch_book.specs.Places.{last_place, notes_of}
use Rattle.batch_book.specs.Recording.{made_in, marked_in}
use Rattle.batch_book.specs.Seats.{AskedAgrees, own}
use Rattle.batch_book.specs.Sides.{side_lists}
use Rattle.batch_book.specs.Values.{greatest}
use Rattle.batch_book.proofs.Fronts.{front, starts_then}
use Rattle.batch_book.proofs.Noting.{greatest_append, recorded_more}
use Rattle.batch_book.proofs.Sides.{standing}
use Rattle.batch_book.proofs.close.close_each.Goals as goal

pub take_back-book-requires-clause-durable : goal.take_back-book-requires-clause-durable
take_back-book-requires-clause-durable g c _ _ = let r = c.args.record in subst (IsPrefix _) (sym r.tried) r.first

pub take_back-book-requires-clause-first : goal.take_back-book-requires-clause-first
take_back-book-requires-clause-first g c _ _ =
    let w = c.args.waiting in
    let r = c.args.record in
    let notes = w.keeper.history in
    let its = rw c.in-Some.is at c.args.book.its in
    let lists = rw c.in-Some.is at c.args.book.lists in
    let own = c.compare.ensures.list ∙ ap (λ s. notes_of s notes) its in
    let queued = sym (ap (λ x. x.1) lists) ∙ ap (λ l. (side_lists g.L.ExchangeName.earlier l).1) own ∙ ap (λ x. x.1) w.known in
    let theirs = c.compare-2.ensures.list ∙ (λ i. notes_of ((rw c.in-Some-its.is at r.its) i) ((ap (λ k. k.history) c.compare.ensures.same.0) i)) in
    let taken = ap (λ l. (side_lists g.L.ExchangeName.earlier l).0) (sym theirs) ∙ (rw c.in-Some-its.is at r.known) ∙ sym r.tried in
    subst (λ (x : List Entry × List Entry). IsPrefix x.0 x.1) (λ i. (taken i, sym queued i)) w.taken

pub take_back-book-requires-clause-text : goal.take_back-book-requires-clause-text
take_back-book-requires-clause-text g c _ _ =
    let w = c.args.waiting in
    let r = c.args.record in
    let notes = w.keeper.history in
    let its = rw c.in-Some.is at c.args.book.its in
    let lists = rw c.in-Some.is at c.args.book.lists in
    let own = c.compare.ensures.list ∙ ap (λ s. notes_of s notes) its in
    let queued = sym (ap (λ x. x.1) lists) ∙ ap (λ l. (side_lists g.L.ExchangeName.earlier l).1) own ∙ ap (λ x. x.1) w.known in
    let theirs = c.compare-2.ensures.list ∙ (λ i. notes_of ((rw c.in-Some-its.is at r.its) i) ((ap (λ k. k.history) c.compare.ensures.same.0) i)) in
    let taken = ap (λ l. (side_lists g.L.ExchangeName.earlier l).0) (sym theirs) ∙ (rw c.in-Some-its.is at r.known) ∙ sym r.tried in
    c.as_slice.ensures.value ∙ w.waits ∙ r.texts _ _ ∙ (λ i. g.H.Recorder.Recorder.texts (taken i) (sym queued i))

pub returns : goal.returns
returns g c =
    let b = c.args.book in
    let w = c.args.waiting in
    let r = c.args.record in
    let earlier = g.L.ExchangeName.earlier in
    let notes = w.keeper.history in
    let e = c.gather-all.ensures in
    let all = c.gather-all.result in
    let its = rw c.in-Some.is at b.its in
    let lists = rw c.in-Some.is at b.lists in
    let own_is = c.compare.ensures.list ∙ ap (λ s. notes_of s notes) its in
    let kept = ap (λ x. x.0) (sym lists ∙ ap (λ l. side_lists earlier l) own_is ∙ w.known) in
    let theirs = c.compare-2.ensures.list ∙ (λ i. notes_of ((rw c.in-Some-its.is at r.its) i) ((ap (λ k. k.history) c.compare.ensures.same.0) i)) in
    let taken = ap (λ l. (side_lists earlier l).0) (sym theirs) ∙ (rw c.in-Some-its.is at r.known) in
    let upto : last_place 0 c.in-Some-its.its.list ≡ w.front = ap (last_place 0) theirs ∙ w.stood in
    let same = ap (λ k. k.history) (c.compare-2.ensures.same.0 ∙ c.compare.ensures.same.0) in
    let first = starts_then _ _ _ (subst (IsPrefix _) (sym taken) r.first) (starts_then _ _ _ w.taken w.first) in
    let stood = standing earlier (made_in notes) _ w.front first ((rw c.in-Some-its.is at r.many) ∙ ap (λ k. length earlier + k) upto) in
    let back = c.take_back-book.ensures in
    let more = front _ _ back.more in
    let parts : all.share.parts ≡ g.L.Ledger.parts = omega (arith, all.of_ledger, e.parts, c.requires.parts) in
    let amount = c.audit.ensures.whole parts in
    let read = c.load.ensures.whole (all.of_word ∙ e.parts) in
    let later = c.load.ensures.later in
    let behind = greatest_append earlier (made_in notes) in
    let now = ap greatest (back.history ∙ kept) in
    let raised = subst (λ h. all.watcher.raised ≤ max (greatest earlier) (greatest (made_in h))) same e.raised in
    record {
      made = made_in notes;
      standing = take w.front (made_in notes) ++ more.0;
      all_parts = e.total;
      opened = back.opening ∙ b.opened;
      are = back.history ∙ kept;
      stand = more.1 ∙ ap (λ l. l ++ more.0) stood ∙ append_assoc earlier (take w.front (made_in notes)) more.0;
      asked = subst (λ h. All (AskedAgrees (made_in h)) c.args.seats.items) same e.asked;
      recorded = λ k d less.
          let s = slice_index_or c.args.seats.items k d in
          recorded_more (take w.front (made_in notes)) more.0 s
          (subst (λ l. IsPrefix l (own s.session (take w.front (made_in notes)))) (sym (e.told k d less ∙ ap (λ h. marked_in (notes_of s.session h)) same))
          (w.told s.session));
      counted = omega (arith, w.counted, amount, e.amount);
      none_ahead = λ k d less. let seen = e.seen k d less in omega (arith, seen, later, read, raised, behind, now);
      unstopped = λ never. subst AreUnstopped (sym back.history) (b.unstopped never);
      all = back.all;
    }
