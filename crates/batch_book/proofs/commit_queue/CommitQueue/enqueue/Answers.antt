use Rattle.std.proofs.Common.{◌∙◌, ◌++◌, ◌∷◌, [], ap, sym, subst, refl, length, length-append, arith}
use Rattle.batch_book.specs.declared.limits.TheConstants.{BOOK_SIDE}
use Rattle.batch_book.specs.History.{IsPrefix, entry}
use Rattle.batch_book.specs.Places.{notes_of}
use Rattle.batch_book.specs.Recording.{made_in, note, side_note}
use Rattle.batch_book.specs.Sides.{side_lists, taken_in}
use Rattle.batch_book.proofs.Fronts.{starts, starts_then}
use Rattle.batch_book.proofs.Sides.{called, lists_now, two_made}
use Rattle.batch_book.proofs.commit_queue.CommitQueue.enqueue.Goals as goal

pub drain_into-requires-clause-queued : goal.drain_into-requires-clause-queued
drain_into-requires-clause-queued g c =
    let was = c.args.self.now in
    let own = c.compare-its.ensures.list ∙ ap (λ s. notes_of s was.keeper.history) c.requires.side in
    let known = ap (side_lists g.L.ExchangeName.earlier) own ∙ was.known in
    sym (c.requires.durable ∙ ap (λ x. x.1) known)

pub drain_into-requires-clause-first : goal.drain_into-requires-clause-first
drain_into-requires-clause-first g c =
    let was = c.args.self.now in
    let own = c.compare-its.ensures.list ∙ ap (λ s. notes_of s was.keeper.history) c.requires.side in
    let known = ap (side_lists g.L.ExchangeName.earlier) own ∙ was.known in
    let grown = c.requires.grown ∙ ap (λ l. l ++ made_in (note c.args.asked.session c.args.place c.args.asked.call.value c.args.reply.now ∷ [])) (ap (λ x. x.0) known) in
    subst (λ l. IsPrefix l c.args.book.now.history) (sym (c.requires.durable ∙ ap (λ x. x.1) known)) (starts_then _ _ _ was.first (starts _ _ _ grown))

pub drain_into-requires-clause-many : goal.drain_into-requires-clause-many
drain_into-requires-clause-many g c =
    let was = c.args.self.now in
    let own = c.compare-its.ensures.list ∙ ap (λ s. notes_of s was.keeper.history) c.requires.side in
    let known = ap (side_lists g.L.ExchangeName.earlier) own ∙ was.known in
    ap length (c.requires.durable ∙ ap (λ x. x.1) known) ∙ was.many

pub invariant_of-self : goal.invariant_of-self
invariant_of-self g c =
    let was = c.args.self.now in
    let h = was.keeper.history in
    let earlier = g.L.ExchangeName.earlier in
    let m = note c.args.asked.session c.args.place c.args.asked.call.value c.args.reply.now in
    let own = c.compare-its.ensures.list ∙ ap (λ s. notes_of s h) c.requires.side in
    let known = ap (side_lists earlier) own ∙ was.known in
    let queued = c.requires.durable ∙ ap (λ x. x.1) known in
    let e = c.drain_into.ensures in
    let now = c.drain_into.new.book.durable in
    let seen = ap (λ s. s.value) c.of-all.ensures ∙ c.past.ensures ∙ e.history in
    let first = c.add-own.ensures.history ∙ (λ i. (c.compare-its.ensures.same.0 i).history ++ c.of.ensures i ∷ []) in
    let side = c.side-note.ensures ∙ (λ i. side_note BOOK_SIDE 0 (seen i) ((ap (λ s. s.value) c.of-2.ensures ∙ e.queued) i)) in
    let grown = c.add-its.ensures.history ∙ (λ i. first i ++ side i ∷ []) in
    let all = c.requires.grown ∙ ap (λ l. l ++ entry c.args.asked.session c.args.asked.call.value c.args.reply.now ∷ []) (ap (λ x. x.0) known) in
    let k = called g.E.PendingEntries.texts earlier h _ c.args.asked.session c.args.place c.args.asked.call.value c.args.reply.now was.queued.value now
    c.args.book.now.history was.count _ was.front was.text.items _
    record {
      placed = was.placed;
      known = was.known;
      first = was.first;
      many = was.many;
      taken = was.taken;
      waits = was.waits;
      stood = was.stood;
      told =
          was.told;
    }
    grown all c.requires.place (subst (λ l. IsPrefix l now) queued e.more) (subst (IsPrefix now) e.history e.first) e.many
    (e.text (taken_in earlier h) (subst (IsPrefix _) (sym queued) was.taken)
    (was.waits ∙ ap (λ l. g.E.PendingEntries.texts (taken_in earlier h) l) (sym queued))) in
    let more = ap length (two_made h _ m _ grown refl) ∙ length-append (made_in h) _ in
    record {
      counted = omega (arith, more, c.add.ensures.total, was.counted);
      placed = k.placed;
      known = k.known ∙ ap (λ l. (earlier ++ made_in c.add-its.new.self.history, l)) (sym e.queued);
      first = subst (λ l. IsPrefix l (earlier ++ made_in c.add-its.new.self.history)) (sym e.queued) k.first;
      many = ap length e.queued ∙ k.many;
      taken = subst (IsPrefix _) (sym e.queued) k.taken;
      waits = k.waits ∙ ap (λ l. g.E.PendingEntries.texts (taken_in earlier c.add-its.new.self.history) l) (sym e.queued);
      stood = k.stood;
      told = k.told;
    }

pub returns-clause-lists : goal.returns-clause-lists
returns-clause-lists g c =
    let e = c.drain_into.ensures in
    let now = c.drain_into.new.book in
    let seen = ap (λ s. s.value) c.of-all.ensures ∙ c.past.ensures in
    let side = c.side-note.ensures ∙ (λ i. side_note BOOK_SIDE 0 (seen i) ((ap (λ s. s.value) c.of-2.ensures ∙ e.queued) i)) in
    lists_now (g.L.ExchangeName.earlier, g.L.ExchangeName.earlier) _ _ (side_note BOOK_SIDE 0 now.history now.durable) (now.history, now.durable)
    (c.add-its.ensures.list ∙ ap (λ n. c.compare-its.result.list ++ n ∷ []) side) refl
