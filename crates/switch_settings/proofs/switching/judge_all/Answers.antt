use Rattle.std.proofs.lemmas.Result.{err_from_is_err_and}
use Rattle.switch_settings.proofs.Replies.{missed}
use Rattle.switch_settings.proofs.switching.judge_all.Goals as goal

pub returns-in_err-judge-clause-fault : goal.returns-in_err-judge-clause-fault
returns-in_err-judge-clause-fault c =
    let p = err_from_is_err_and c.from_residual.result c.from_residual.ensures.1 in
    let differs = c.in_err-judge.ensures.differs in
    rw (p.1, p.2) (missed _ _ _ _ _ _ _ c.wanted_switch-wanted.ensures c.port_of.ensures c.loop-number-test.true differs.0 differs.1 c.loop-number.invariant)
