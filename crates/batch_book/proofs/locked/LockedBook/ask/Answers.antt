use Rattle.std.proofs.Common.{◌∙◌, ◌++◌, ap, refl, sym, length, length-append, true≢false, arith}
use Rattle.batch_book.specs.Places.{are_up_to}
use Rattle.batch_book.specs.Recording.{made_in, noted}
use Rattle.batch_book.proofs.Noting.{asked, kept_more, made_append, raised_more}
use Rattle.batch_book.proofs.Places.{low_noted}
use Rattle.batch_book.proofs.locked.LockedBook.ask.Goals as goal

pub returns-clause-asked : goal.returns-clause-asked
returns-clause-asked g c =
    let r = c.apply-made.result.0 in
    let e = c.apply-made.ensures in
    asked c.args.place.access.watcher c.apply-made.result.1 c.args.session 0 c.args.place.access.parts _ c.args.place.broken _ c.args.place.own.list
    c.note_call-own.result.list c.args.call r e.reaches e.quiet refl
    (c.note_call-own.ensures.list ∙ ap (λ k. c.args.place.own.list ++ noted c.args.session 0 k r) c.of-asked.ensures)
    c.is_broken-broken.ensures

pub invariant_of-access : goal.invariant_of-access
invariant_of-access g c =
    let r = c.apply-made.ensures.reaches in
    let t = c.args.place.access in
    record { some = t.some; few = t.few; of_ledger = c.note_call-own.ensures.parts ∙ t.of_ledger; of_word = r.parts ∙ t.of_word }

pub invariant_of-self : goal.invariant_of-self
invariant_of-self g c =
    let old = c.args.self.now in
    let e = c.note_call-own.ensures in
    let r = c.apply-made.result.0 in
    let step = c.apply-made.ensures.step in
    let notes = old.keeper.history in
    let history = e.history ∙ ap (λ k. notes ++ noted c.args.session 0 k r) c.of-asked.ensures in
    let counted = ap length (ap made_in e.history ∙ made_append notes _) ∙ length-append (made_in notes) _ in
    record {
      sure = old.sure;
      counted = omega (arith, counted, e.total, old.counted);
      kept = kept_more g.L.ExchangeName.earlier notes old.book _ c.args.session 0 c.args.call r step old.kept
          ∙ ap (λ ns. g.L.ExchangeName.earlier ++ made_in ns) (sym history);
      opened = c.apply-made.ensures.opening ∙ old.opened;
      unstopped = c.apply-made.ensures.unstopped old.unstopped;
    }

pub invariant_of-result : goal.invariant_of-result
invariant_of-result g c =
    let reaches = c.apply-made.ensures.reaches in
    let t = c.args.place in
    let e = c.note_call-own.ensures in
    let notes = t.own.list in
    let r = c.apply-made.result.0 in
    let counted = ap length (ap made_in e.list ∙ made_append notes _) ∙ length-append (made_in notes) _ in
    record {
      counted = omega (arith, counted, e.amount, t.counted);
      highest = raised_more g.L.ExchangeName.earlier t.own.session c.args.session 0 _ notes _ c.of-asked.result.value r _ _ t.highest reaches.raised
          (e.session ∙ sym c.requires.session) e.list;
      low = ap (are_up_to t.last) e.list ∙ low_noted t.last notes c.args.session c.of-asked.result.value r t.low;
      settled = λ never. absurd (true≢false never);
    }
