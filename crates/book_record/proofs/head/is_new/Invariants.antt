use Rattle.book_record.proofs.Heads.{NoneSo}
use Rattle.book_record.proofs.head.is_new.Given as goal

abbrev pub invariant-loop-seen : goal.invariant-loop-seen
invariant-loop-seen l = NoneSo l.fn.text l.fn.name l.seen l.rest
