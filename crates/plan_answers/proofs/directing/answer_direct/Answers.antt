use Rattle.std.proofs.Common.{◌∙◌, ap, subst}
use Rattle.std.proofs.lemmas.Result.{IfOk-weaker}
use Rattle.batch.specs.Batches.{IsBatch}
use Rattle.plan_answers.specs.Directing.{of_moves, IsDirected, directed, refused}
use Rattle.plan_answers.specs.Refusals.{Refuses}
use Rattle.plan_answers.proofs.directing.answer_direct.Goals as goal

pub returns-in_ok-write-in-Ok : goal.returns-in_ok-write-in-Ok
returns-in_ok-write-in-Ok c =
    let batch = c.in_ok-batch-in-Ok.batch in
    let kept : IsBatch batch = subst IsBatch c.batch.view_is c.batch.invariant in
    directed c.in-Ok.moves c.in-Ok.ensures.moves (record {
      batch = batch;
      says = record { spelled = c.done.ensures.text ∙ c.in_ok-write-in-Ok.ensures; few = kept.few; within = kept.within };
      directs = c.in_ok-batch-in-Ok.ensures.moves;
      halves = c.in_ok-batch-in-Ok.ensures.halved;
    }) c.done.ensures.status

pub returns-in-Err : goal.returns-in-Err
returns-in-Err c =
    let refuses = rw c.refusal_of.ensures at c.refused.ensures in
    IfOk-weaker c.refused.result (Refuses (of_moves c.in-Err.fault)) (IsDirected c.args.moves.now)
    (λ p is. refused c.in-Err.fault (c.in-Err.ensures.fault (λ e. is.0 (ap of_moves e))) is.1) refuses
