use Rattle.recorded_sessions.proofs.Started.{cut_short, cut_then, uncut}
use Rattle.recorded_sessions.proofs.live.write_front.Goals as goal

pub returns-clause-written : goal.returns-clause-written
returns-clause-written g c = cut_then c.write_bytes.result _ _ _ _ _ _ c.in_ok-cut.ensures.cut c.write_bytes.ensures.went

pub returns-clause-cut : goal.returns-clause-cut
returns-clause-cut g c = cut_short c.write_bytes.result _ _ _ _ _ _ c.in_ok-cut.ensures.cut c.write_bytes.ensures.cut

pub returns-in_err-cut-clause-cut : goal.returns-in_err-cut-clause-cut
returns-in_err-cut-clause-cut g c = uncut c.from_residual.result _ _ _ _ _ c.in_err-cut.ensures.same
