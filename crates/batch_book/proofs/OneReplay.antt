-- Call and reply give the next machine.
use Rattle.std.proofs.Common.{[], ◌∷◌, ap, ◌∙◌}
use Rattle.setting_runner.specs.declared.outcome.RunRefusal.TheVariants as run_refusal
use Rattle.batch_book.specs.declared.stored_batch.BatchStage.TheVariants as stage
use Rattle.batch_book.specs.declared.reply.Reply.TheVariants as reply
use Rattle.batch_book.specs.Machine.{Machine}
use Rattle.batch_book.specs.Laws.{ShapeStays}
use Rattle.batch_book.proofs.Steps.{small_step}

pub shape_stays : ShapeStays
shape_stays m [] a x = ap (λ (n : Machine). n.store.shape) x
shape_stays m (e ∷ es) a x = shape_stays x.0 es a x.2 ∙ (small_step m e.session e.call e.reply x.0 x.1).shape
