use Rattle.named_files.specs.Notes.{HasToldLines}
use Rattle.exchange.proofs.failures.report_failures.Given as goal

abbrev pub invariant-loop-lack : goal.invariant-loop-lack
invariant-loop-lack g l = HasToldLines l.fn.is_quiet (g.E.Write.contents l.fn.err) (g.E.Write.contents l.err)
