use Rattle.std.proofs.Common.{◌≡◌, ◌∙◌, [], ◌∷◌, ◌++◌, true, refl, sym, subst}
use Rattle.batch.specs.ShapeView.{IsShape}
use Rattle.module_memory.specs.Store.{Store}
use Rattle.batch_book.specs.declared.call.Call.{Call}
use Rattle.batch_book.specs.Answering.{IsReplyTo}
use Rattle.batch_book.specs.History.{book_view, entry, has_book_room, IsGrown}
use Rattle.batch_book.proofs.Answering.{answered, sound, value_below}
use Rattle.batch_book.proofs.Seats.{further}
use Rattle.batch_book.proofs.Histories.{either_stands, grown, is_answered, stays_front}
use Rattle.batch_book.proofs.Room.{room_of}
use Rattle.batch_book.proofs.Steps.{small_step}
use Rattle.batch_book.proofs.book.Book.apply_in_room.Goals as goal

pub push-requires-clause-answers : goal.push-requires-clause-answers
push-requires-clause-answers g c =
    let inside = c.self.inside in
    let shape : IsShape inside.batch_store.store.shape = subst (λ (s : Store). IsShape s.shape) c.rack.ensures c.shape-shape.ensures.whole.within in
    let fits = (answered inside.batch_store c.args.session c.args.call c.in_ok-told.reply _
    (sound inside.opening (g.H.EntryLog.pushed inside.history) inside.batch_store shape c.self.invariant.0.replay) c.in_ok-told.ensures.step).fits in
    let same : c.new.result ≡ c.args.call = c.new.ensures ∙ c.of-asked.ensures in
    subst (λ (k : Call). IsReplyTo k c.of.result) (sym same) (subst (IsReplyTo c.args.call) (sym c.of.ensures) fits)

pub value-requires : goal.value-requires
value-requires g c =
    let inside = c.self.inside in
    let shape : IsShape inside.batch_store.store.shape = subst (λ (s : Store). IsShape s.shape) c.rack.ensures c.shape-shape.ensures.whole.within in
    value_below inside.batch_store c.args.call c.in_ok-told.reply (answered inside.batch_store c.args.session c.args.call c.in_ok-told.reply _
    (sound inside.opening (g.H.EntryLog.pushed inside.history) inside.batch_store shape c.self.invariant.0.replay) c.in_ok-told.ensures.step)
    c.self.invariant.0.few_runs

pub invariant_of-self-2 : goal.invariant_of-self-2
invariant_of-self-2 g c =
    let inside = c.self.inside in
    let h = g.H.EntryLog in
    let same : c.new.result ≡ c.args.call = c.new.ensures ∙ c.of-asked.ensures in
    let longer : h.pushed c.push.new.self ≡ h.pushed inside.history ++ entry c.args.session c.args.call c.in_ok-told.reply ∷ [] =
    c.push.ensures.pushed ∙ (λ i. c.draft.ensures.pushed i ++ entry c.args.session (same i) (c.of.ensures i) ∷ []) in
    let durable = either_stands h.loses c.draft.ensures.durable c.push.ensures.waits c.push.ensures.all in
    let room : has_book_room h.limited (book_view inside.opening (h.pushed inside.history) (h.durable inside.history) inside.batch_store
    (h.whole inside.history)) ≡ true = rw (← c.self.view_is) at c.requires.room in (
      grown h.limited h.loses (book_view inside.opening (h.pushed inside.history) (h.durable inside.history) inside.batch_store (h.whole inside.history))
          c.args.session c.args.call c.in_ok-told.reply _ _ _ (h.whole c.push.new.self)
          c.self.invariant.0 (room_of _ _ room) longer durable c.push.ensures.all c.in_ok-told.ensures.step (c.push.ensures.whole ∙ c.draft.ensures.whole),
      further (h.pushed inside.history) (h.pushed c.push.new.self) (entry c.args.session c.args.call c.in_ok-told.reply) inside.furthest c.value.result
          c.max-self-inside.result c.self.invariant.1 c.value.ensures c.max-self-inside.ensures longer,
    )

pub returns-clause-step : goal.returns-clause-step
returns-clause-step g c =
    let inside = c.self.inside in
    let h = g.H.EntryLog in
    let same : c.new.result ≡ c.args.call = c.new.ensures ∙ c.of-asked.ensures in
    let longer : h.pushed c.push.new.self ≡ h.pushed inside.history ++ entry c.args.session c.args.call c.in_ok-told.reply ∷ [] =
    c.push.ensures.pushed ∙ (λ i. c.draft.ensures.pushed i ++ entry c.args.session (same i) (c.of.ensures i) ∷ []) in
    let durable = either_stands h.loses c.draft.ensures.durable c.push.ensures.waits c.push.ensures.all in
    let old = book_view inside.opening (h.pushed inside.history) (h.durable inside.history) inside.batch_store (h.whole inside.history) in
    let new = book_view inside.opening (h.pushed c.push.new.self) (h.durable c.push.new.self) c.answer.new.self (h.whole c.push.new.self) in
    let step = c.in_ok-told.ensures.step in
    let logged = (small_step inside.batch_store c.args.session c.args.call c.in_ok-told.reply _ step).logged in
    let was : h.whole inside.history ≡ true = rw (← c.self.view_is) at c.requires.whole in
    let more : IsGrown old c.args.session c.args.call c.in_ok-told.reply new =
    record { step = step; history = longer; durable = stays_front _ _ _ _ _ c.self.invariant.0.front longer durable; opening = refl } in
    rw (← c.self.view_is) (is_answered old new c.args.session c.args.call c.in_ok-told.reply was (c.push.ensures.whole ∙ c.draft.ensures.whole ∙ was) logged
    more)
