use Rattle.std.proofs.Common.{ℕ, List, Err}
use Rattle.std.specs.Prelude.{⊤}
use Rattle.recorded_sessions.specs.declared.job_result.JobResult.{JobResult}
use Rattle.exchange.proofs.Lines.{missed_after}
use Rattle.exchange.proofs.driving.drive.Goals as goal

pub returns-in-Err-clause-answer : goal.returns-in-Err-clause-answer
returns-in-Err-clause-answer g c =
    let t = c.answer_lines-end.ensures.told in
    let none = rw c.in-Err.is at t.3 in
    missed_after {X = JobResult} (Err c.missed_by.result) c.in-Err.fault _ _ (λ (told : List ℕ) (found : JobResult). ⊤) _ _ t.0 t.1 c.missed_by.ensures none.0
    none.1

pub returns-in-Ok-clause-answer : goal.returns-in-Ok-clause-answer
returns-in-Ok-clause-answer g c =
    let t = c.answer_lines-end.ensures.told in
    let driven = rw c.in-Ok.is at t.2 in
    (t.0, t.1, rw c.take_failure-failure.ensures (rw c.alone.ensures driven), tt)
