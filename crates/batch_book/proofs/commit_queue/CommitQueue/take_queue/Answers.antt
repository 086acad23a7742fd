use Rattle.std.proofs.Common.{◌∙◌, ◌++◌, ◌∷◌, [], ap, sym, subst, refl, length}
use Rattle.batch_book.specs.declared.limits.TheConstants.{RECORD_SIDE}
use Rattle.batch_book.specs.History.{IsPrefix}
use Rattle.batch_book.specs.Places.{last_place, notes_of}
use Rattle.batch_book.specs.Recording.{side_note}
use Rattle.batch_book.specs.Sides.{side_lists}
use Rattle.batch_book.proofs.Sides.{handed_over, lists_now, made_side, place_now}
use Rattle.batch_book.proofs.commit_queue.CommitQueue.take_queue.Goals as goal

pub invariant_of-self : goal.invariant_of-self
invariant_of-self g c =
    let was = c.args.self.now in
    let h = was.keeper.history in
    let all = was.queued.value in
    let n = side_note RECORD_SIDE was.front all all in
    let side = c.side-note.ensures ∙ ap (λ s. side_note RECORD_SIDE was.front s.value s.value) c.of-all.ensures in
    let grown = c.add-own.ensures.history ∙ (λ i. (c.compare-own.ensures.same.0 i).history ++ side i ∷ []) in
    let k = handed_over g.E.PendingEntries.texts g.L.ExchangeName.earlier h _ all was.count was.front was.text.items _
    record {
      placed = was.placed;
      known = was.known;
      first = was.first;
      many = was.many;
      taken = was.taken;
      waits = was.waits;
      stood = was.stood;
      told =
          was.told;
    }
    grown (ap (λ v. v.items) c.swap.ensures.x_after ∙ c.requires.spare ∙ sym (c.requires.none all)) in
    record {
      counted = ap length (made_side h _ n grown refl) ∙ was.counted;
      placed = k.placed;
      known = k.known;
      first = k.first;
      many = k.many;
      taken = k.taken;
      waits = k.waits;
      stood = k.stood;
      told = k.told;
    }

pub returns-clause-first : goal.returns-clause-first
returns-clause-first g c =
    let was = c.args.self.now in
    let h = was.keeper.history in
    let own = c.compare-own.ensures.list ∙ ap (λ s. notes_of s h) c.requires.side in
    subst (λ l. IsPrefix (side_lists g.L.ExchangeName.earlier l).0 c.of-all.result.value.value) (sym own)
    (subst (IsPrefix _) (sym (ap (λ s. s.value) c.of-all.ensures)) was.taken)

pub returns-clause-text : goal.returns-clause-text
returns-clause-text g c =
    let was = c.args.self.now in
    let h = was.keeper.history in
    let texts = g.E.PendingEntries.texts in
    let own = c.compare-own.ensures.list ∙ ap (λ s. notes_of s h) c.requires.side in
    ap (λ v. v.items) c.swap.ensures.y_after ∙ was.waits ∙ (λ i. texts (side_lists g.L.ExchangeName.earlier (sym own i)).0 (sym c.of-all.ensures i).value)

pub returns-clause-count : goal.returns-clause-count
returns-clause-count g c = ap (λ s. length s.value) c.of-all.ensures ∙ c.args.self.now.many

pub returns-clause-taken : goal.returns-clause-taken
returns-clause-taken g c =
    let was = c.args.self.now in
    let all = was.queued.value in
    let side = c.side-note.ensures ∙ ap (λ s. side_note RECORD_SIDE was.front s.value s.value) c.of-all.ensures in
    let list = c.add-own.ensures.list ∙ ap (λ n. c.compare-own.result.list ++ n ∷ []) side in
    ap (λ x. x.0) (lists_now (g.L.ExchangeName.earlier, g.L.ExchangeName.earlier) _ _ (side_note RECORD_SIDE was.front all all) (all, all) list refl)
    ∙ sym (ap (λ s. s.value) c.of-all.ensures)

pub returns-clause-place : goal.returns-clause-place
returns-clause-place g c =
    let was = c.args.self.now in
    let all = was.queued.value in
    let side = c.side-note.ensures ∙ ap (λ s. side_note RECORD_SIDE was.front s.value s.value) c.of-all.ensures in
    let list = c.add-own.ensures.list ∙ ap (λ n. c.compare-own.result.list ++ n ∷ []) side in
    let own = c.compare-own.ensures.list ∙ ap (λ s. notes_of s was.keeper.history) c.requires.side in
    place_now _ _ (side_note RECORD_SIDE was.front all all) (all, all) list refl ∙ sym (ap (last_place 0) own ∙ was.stood)
