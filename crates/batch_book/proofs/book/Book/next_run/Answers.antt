use Rattle.std.proofs.Common.{subst, rules}
use Rattle.batch.specs.ShapeView.{IsShape}
use Rattle.module_memory.specs.Store.{Store}
use Rattle.batch_book.proofs.Answering.{sound}
use Rattle.batch_book.proofs.book.Book.next_run.Goals as goal

pub returns-clause-sound : goal.returns-clause-sound
returns-clause-sound g c =
    let shape : IsShape c.self.inside.batch_store.store.shape = subst (λ (s : Store). IsShape s.shape) c.rack.ensures c.shape-shape.ensures.whole.within in
    rw (← c.self.view_is) (sound _ _ _ shape c.self.invariant.0.replay)

pub returns-clause-number : goal.returns-clause-number
returns-clause-number g c = search rules
