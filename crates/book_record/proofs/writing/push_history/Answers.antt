use Rattle.std.proofs.Common.{All, subst, sym}
use Rattle.batch.specs.ShapeView.{IsShape}
use Rattle.batch_book.specs.declared.entry.Entry.{Entry}
use Rattle.book_record.specs.RecordText.{CanBePut}
use Rattle.book_record.proofs.Put.{can_be_put}
use Rattle.book_record.proofs.writing.push_history.Goals as goal

pub push_all-requires : goal.push_all-requires
push_all-requires c =
    let shape : IsShape c.args.book.now.opening.shape = subst (λ s. IsShape s.shape) c.opening.ensures c.shape-shape.ensures.whole.within in
    subst (All (λ (e : Entry). CanBePut e.reply)) (sym c.history.ensures.history)
    (can_be_put c.args.book.now.opening c.args.book.now.history c.args.book.now.machine shape c.history.ensures.replay)
