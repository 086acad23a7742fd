use Rattle.book_record.proofs.Heads.{NamesRead}
use Rattle.book_record.proofs.head.after_clients.Given as goal

abbrev pub invariant-loop-read : goal.invariant-loop-read
invariant-loop-read l = NamesRead l.fn.text l.read l.rest
