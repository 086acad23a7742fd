use Rattle.std.proofs.Common.{◌≡◌, ◌++◌, take}
use Rattle.book_record.specs.RecordText.{texts}
use Rattle.book_record.proofs.writing.push_all.Given as goal

abbrev pub invariant-loop-at : goal.invariant-loop-at
invariant-loop-at l =
    l.text.items ≡ l.fn.text.items ++ texts 0 (take l.at l.history)
