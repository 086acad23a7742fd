use Rattle.exchange.proofs.Told.{told_lines_more}
use Rattle.exchange.proofs.failures.report_failures.Goals as goal

pub loop-lack-preserved : goal.loop-lack-preserved
loop-lack-preserved g c = told_lines_more _ _ _ _ c.loop-lack.invariant c.report_failure.ensures
