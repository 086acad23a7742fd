use Rattle.std.proofs.Common.{◌∙◌, ◌++◌, refl, ap}
use Rattle.book_record.specs.Streams.{text_behind}
use Rattle.book_record.proofs.Streams.{after_both, none_held}
use Rattle.book_record.proofs.pending_text.PendingTextPendingEntries.queue_text.Goals as goal

pub invariant_of-self-2 : goal.invariant_of-self-2
invariant_of-self-2 c = (none_held _ _ _ _ c.of.ensures refl, c.self.invariant.1)

pub returns-clause-text : goal.returns-clause-text
returns-clause-text c taken first text =
    let inside = c.self.inside in
    let now = rw (← c.self.view_is) at first in
    let was = rw (← c.self.view_is) at text in
    rw (← c.self.view_is) (c.in_ok-move_text.ensures.all ∙ ap (λ l. l ++ c.truncate.new.self.items) was ∙ ap (λ l. text_behind taken inside.queued.value ++ l)
    (c.truncate.ensures.items ∙ c.self.invariant.0.0.1) ∙ after_both taken inside.queued.value inside.past now c.self.invariant.0.0.0)
