use Rattle.std.proofs.Common.{◌∙◌, ◌+◌, ap, length, sym, subst}
use Rattle.batch_book.specs.History.{IsPrefix}
use Rattle.batch_book.proofs.Fronts.{starts_same, starts_then}
use Rattle.batch_book.proofs.Sides.{goes_on}
use Rattle.batch_book.proofs.writer_state.WriterState.flush.Goals as goal

pub take_queue-all-requires-clause-none : goal.take_queue-all-requires-clause-none
take_queue-all-requires-clause-none g c all = c.args.self.now.texts all all ∙ c.is_whole.ensures.none all

pub append-requires-clause-first : goal.append-requires-clause-first
append-requires-clause-first g c =
    let was = c.args.self.now in
    subst (λ l. IsPrefix l c.take_queue-all.result.0.value.value) ((rw (sym c.take.ensures.value ∙ c.in-Some.is) at was.known) ∙ sym was.tried)
    c.take_queue-all.ensures.first

pub append-requires-clause-text : goal.append-requires-clause-text
append-requires-clause-text g c =
    let was = c.args.self.now in
    let all = c.take_queue-all.result.0.value.value in
    c.as_slice.ensures.value ∙ c.take_queue-all.ensures.text ∙ ap (λ l. g.H.Pending.PendingEntries.texts l all)
    ((rw (sym c.take.ensures.value ∙ c.in-Some.is) at was.known) ∙ sym was.tried) ∙ was.texts _ all

pub mark_durable-own-requires-clause-below : goal.mark_durable-own-requires-clause-below
mark_durable-own-requires-clause-below g c =
    let was = c.args.self.now in
    let e = c.take_queue-all.ensures in
    goes_on g.L.ExchangeName.earlier _ _ _ _ _ _ was.first
    (subst (λ l. IsPrefix l c.take_queue-all.result.0.value.value) (rw (sym c.take.ensures.value ∙ c.in-Some.is) at was.known) e.first)
    (rw (sym c.take.ensures.value ∙ c.in-Some.is) at was.many) e.count e.place

pub invariant_of-self-in-Ok : goal.invariant_of-self-in-Ok
invariant_of-self-in-Ok g c =
    let was = c.args.self.now in
    let e = c.mark_durable-own.ensures in
    record {
      its = e.side;
      known = e.taken;
      tried = c.append.ensures.tried;
      first = starts_same _ _ c.in-Ok.ensures.durable;
      many = ap length c.in-Ok.ensures.durable ∙ c.take_queue-all.ensures.count ∙ ap (λ k. length g.L.ExchangeName.earlier + k) (sym e.place);
      empty = c.clear.ensures.items;
      texts = was.texts;
    }

pub invariant_of-self-in-Err : goal.invariant_of-self-in-Err
invariant_of-self-in-Err g c =
    let was = c.args.self.now in
    let e = c.take_queue-all.ensures in
    let taken = rw (sym c.take.ensures.value ∙ c.in-Some.is) at was.known in
    let same = c.in-Err.ensures.none in
    record {
      its = e.side;
      known = e.taken;
      tried = c.append.ensures.tried;
      first = subst (λ l. IsPrefix l c.take_queue-all.result.0.value.value) (sym same)
          (starts_then _ _ _ was.first (subst (λ l. IsPrefix l c.take_queue-all.result.0.value.value) taken e.first));
      many = ap length same ∙ (rw (sym c.take.ensures.value ∙ c.in-Some.is) at was.many) ∙ ap (λ k. length g.L.ExchangeName.earlier + k) (sym e.place);
      empty = c.clear-in-Err.ensures.items;
      texts = was.texts;
    }
