use Rattle.std.proofs.Common.{◌∙◌, ◌+◌, ◌++◌, ap, refl, sym, subst, length, length-append, true≢false, arith}
use Rattle.batch_book.specs.History.{AreUnstopped}
use Rattle.batch_book.specs.Recording.{made_in, noted}
use Rattle.batch_book.proofs.Noting.{asked, grown_by, made_append, raised_more}
use Rattle.batch_book.proofs.book_state.BookState.ask.Goals as goal

pub note_made-own-requires-clause-grown : goal.note_made-own-requires-clause-grown
note_made-own-requires-clause-grown g c =
    let was = c.args.self.now in
    let r = c.apply-made.result.0 in
    let lists = rw (sym c.take.ensures.value ∙ c.in-Some.is) at was.lists in
    let call = c.of-asked.ensures in
    grown_by was.book _ c.args.session (was.pushed + 1) c.args.call r c.apply-made.ensures.step
    ∙ (λ i. (sym lists i).0 ++ made_in (noted c.args.session (was.pushed + 1) (sym call i) r))

pub note_made-own-requires-clause-durable : goal.note_made-own-requires-clause-durable
note_made-own-requires-clause-durable g c =
    let lists = rw (sym c.take.ensures.value ∙ c.in-Some.is) at c.args.self.now.lists in
    c.apply-made.ensures.waits c.args.self.now.waits ∙ sym (ap (λ x. x.1) lists)

pub note_made-own-requires-clause-many : goal.note_made-own-requires-clause-many
note_made-own-requires-clause-many g c =
    let was = c.args.self.now in
    let lists = rw (sym c.take.ensures.value ∙ c.in-Some.is) at was.lists in
    ap (λ x. length x.0) lists ∙ was.many

pub returns-clause-asked : goal.returns-clause-asked
returns-clause-asked g c =
    let was = c.args.self.now in
    let t = c.args.place in
    let r = c.apply-made.result.0 in
    let e = c.apply-made.ensures in
    asked t.access.watcher c.apply-made.result.1 c.args.session (was.pushed + 1) t.access.parts _ t.broken _ t.own.list c.note_made-own.result.own.list
    c.args.call r e.reaches e.quiet refl
    (c.note_made-own.ensures.list ∙ ap (λ k. t.own.list ++ noted c.args.session (was.pushed + 1) k r) c.of-asked.ensures)
    c.is_broken-broken.ensures

pub invariant_of-access : goal.invariant_of-access
invariant_of-access g c =
    let r = c.apply-made.ensures.reaches in
    let t = c.args.place.access in
    record { some = t.some; few = t.few; of_ledger = c.note_made-own.ensures.parts ∙ t.of_ledger; of_word = r.parts ∙ t.of_word }

pub invariant_of-self : goal.invariant_of-self
invariant_of-self g c =
    let was = c.args.self.now in
    let e = c.note_made-own.ensures in
    let a = c.apply-made.ensures in
    record {
      its = e.side;
      lists = e.lists;
      many = e.many;
      waits = was.waits;
      opened = e.opening ∙ a.opening ∙ was.opened;
      unstopped = λ never. subst AreUnstopped (sym e.history) (a.unstopped was.unstopped never);
    }

pub invariant_of-result : goal.invariant_of-result
invariant_of-result g c =
    let was = c.args.self.now in
    let reaches = c.apply-made.ensures.reaches in
    let t = c.args.place in
    let e = c.note_made-own.ensures in
    let notes = t.own.list in
    let r = c.apply-made.result.0 in
    let counted = ap length (ap made_in e.list ∙ made_append notes _) ∙ length-append (made_in notes) _ in
    record {
      counted = omega (arith, counted, e.amount, t.counted);
      highest = raised_more g.L.ExchangeName.earlier t.own.session c.args.session (was.pushed + 1) _ notes _ c.of-asked.result.value r _ _ t.highest
          reaches.raised (e.session ∙ sym c.requires.session) e.list;
      low = e.low;
      settled = λ never. absurd (true≢false never);
    }
