use Rattle.std.proofs.Common.{◌∙◌, ◌++◌, ◌∷◌, [], ap, refl, length}
use Rattle.batch_book.specs.Places.{notes_of}
use Rattle.batch_book.specs.Recording.{mark}
use Rattle.batch_book.proofs.Sides.{made_side, marked}
use Rattle.batch_book.proofs.commit_queue.CommitQueue.mark.Goals as goal

pub invariant_of-self : goal.invariant_of-self
invariant_of-self g c =
    let was = c.args.self.now in
    let h = was.keeper.history in
    let grown = c.mark.ensures.history ∙ (λ i. (c.compare-own.ensures.same.0 i).history ++ mark c.args.session ∷ []) in
    let its = c.compare-own.ensures.list ∙ ap (λ s. notes_of s h) c.requires.session in
    let k = marked g.E.PendingEntries.texts g.L.ExchangeName.earlier h _ c.args.place.own.list c.args.session c.args.place.last was.front was.queued.value
    was.count was.text.items
    record {
      placed = was.placed;
      known = was.known;
      first = was.first;
      many = was.many;
      taken = was.taken;
      waits = was.waits;
      stood = was.stood;
      told =
          was.told;
    }
    grown its c.args.place.low c.requires.covered in
    record {
      counted = ap length (made_side h _ (mark c.args.session) grown refl) ∙ was.counted;
      placed = k.placed;
      known = k.known;
      first = k.first;
      many = k.many;
      taken = k.taken;
      waits = k.waits;
      stood = k.stood;
      told = k.told;
    }
