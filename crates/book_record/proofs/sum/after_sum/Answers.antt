use Rattle.book_record.proofs.sum.after_sum.Goals as goal

pub returns : goal.returns
returns c = rw c.sum_line.ensures at c.rest_after.ensures
