use Rattle.std.proofs.Common.{◌∙◌, ap, arith}
use Rattle.batch_book.specs.Places.{are_up_to}
use Rattle.batch_book.proofs.Places.{up_to_more}
use Rattle.batch_book.proofs.book_state.note_made.Goals as goal

pub returns-else-not-is_logged-clause-low : goal.returns-else-not-is_logged-clause-low
returns-else-not-is_logged-clause-low g c =
    ap (are_up_to _) c.enqueue-own.ensures.list ∙ up_to_more c.args.before.last _ c.args.before.own.list _ c.requires.low (omega (arith, c.max.ensures))
    (omega (arith, c.max.ensures))
