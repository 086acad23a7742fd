use Rattle.std.proofs.Common.{◌≤◌, ◌∙◌, ◌++◌, ◌∷◌, [], ap, sym, subst, refl, length}
use Rattle.batch_book.specs.declared.limits.TheConstants.{RECORD_SIDE}
use Rattle.batch_book.specs.Places.{last_place, notes_of}
use Rattle.batch_book.specs.Recording.{side_note}
use Rattle.batch_book.specs.Sides.{side_lists}
use Rattle.batch_book.proofs.Sides.{lists_now, made_side, place_now, standing_to}
use Rattle.batch_book.proofs.commit_queue.CommitQueue.mark_durable.Goals as goal

pub invariant_of-self : goal.invariant_of-self
invariant_of-self g c =
    let was = c.args.self.now in
    let h = was.keeper.history in
    let taken = c.args.taken.now.value.value in
    let n = side_note RECORD_SIDE c.args.front taken taken in
    let grown = c.add.ensures.history ∙ (λ i. (c.compare-own.ensures.same.0 i).history ++ c.side-note.ensures i ∷ []) in
    let own = c.compare-own.ensures.list ∙ ap (λ s. notes_of s h) c.requires.side in
    let below = subst (λ k. k ≤ c.args.front) (ap (last_place 0) own ∙ was.stood) c.requires.below in
    let same = ap (λ l. (side_lists g.L.ExchangeName.earlier l).0) (sym own) ∙ c.requires.taken in
    let k = standing_to g.E.PendingEntries.texts g.L.ExchangeName.earlier h _ was.queued.value taken was.count was.front c.args.front was.text.items
    record {
      placed = was.placed;
      known = was.known;
      first = was.first;
      many = was.many;
      taken = was.taken;
      waits = was.waits;
      stood = was.stood;
      told =
          was.told;
    }
    grown same below in
    record {
      counted = ap length (made_side h _ n grown refl) ∙ was.counted;
      placed = k.placed;
      known = k.known;
      first = k.first;
      many = k.many;
      taken = k.taken;
      waits = k.waits;
      stood = k.stood;
      told = k.told;
    }

pub returns-clause-taken : goal.returns-clause-taken
returns-clause-taken g c =
    let taken = c.args.taken.now.value.value in
    let list = c.add.ensures.list ∙ ap (λ n. c.compare-own.result.list ++ n ∷ []) c.side-note.ensures in
    ap (λ x. x.0) (lists_now (g.L.ExchangeName.earlier, g.L.ExchangeName.earlier) _ _ (side_note RECORD_SIDE c.args.front taken taken) (taken, taken) list refl)

pub returns-clause-place : goal.returns-clause-place
returns-clause-place g c =
    let taken = c.args.taken.now.value.value in
    let list = c.add.ensures.list ∙ ap (λ n. c.compare-own.result.list ++ n ∷ []) c.side-note.ensures in
    place_now _ _ (side_note RECORD_SIDE c.args.front taken taken) (taken, taken) list refl
