use Rattle.std.proofs.Common.{ap, arith}
use Rattle.std.proofs.lemmas.Result.{IfOk-weaker}
use Rattle.batch.specs.ShapeView.{widest}
use Rattle.batch.proofs.OneReading.{one_batch}
use Rattle.batch.proofs.Shapes.{widest_shape}
use Rattle.refusals.specs.Sources.{of_batch}
use Rattle.plan_answers.specs.Answers.{IsPlanned, planned, refused}
use Rattle.plan_answers.specs.Refusals.{Refuses}
use Rattle.plan_answers.proofs.planning.answer_plan.Goals as goal

pub returns-in_ok-plan_text-in-Ok-clause-planned : goal.returns-in_ok-plan_text-in-Ok-clause-planned
returns-in_ok-plan_text-in-Ok-clause-planned g c =
    planned c.in-Ok.batch c.in-Ok.ensures.batch (rw c.done.ensures.text c.in_ok-plan_text-in-Ok.ensures.says) c.done.ensures.status

pub returns-in-Err-clause-planned : goal.returns-in-Err-clause-planned
returns-in-Err-clause-planned g c =
    let refuses = rw c.into.ensures at c.refused.ensures in
    IfOk-weaker c.refused.result (Refuses (of_batch c.in-Err.fault)) (IsPlanned c.args.planning widest c.args.batch.now)
    (λ p is. refused c.in-Err.fault (c.in-Err.ensures.fault (λ e. is.0 (ap of_batch e))) is.1) refuses

pub returns-in-Err-clause-cost : goal.returns-in-Err-clause-cost
returns-in-Err-clause-cost g c plain batch k denotes low = omega arith

pub returns-in_ok-plan_text-in-Ok-clause-cost : goal.returns-in_ok-plan_text-in-Ok-clause-cost
returns-in_ok-plan_text-in-Ok-clause-cost g c plain batch k denotes low =
    let same = one_batch widest widest_shape c.args.batch.now batch c.in-Ok.batch denotes c.in-Ok.ensures.batch in
    rw same (c.plan_text.ensures.cost plain k (rw same at low))

pub returns-in_err-plan_text-in-Ok-clause-cost : goal.returns-in_err-plan_text-in-Ok-clause-cost
returns-in_err-plan_text-in-Ok-clause-cost g c plain batch k denotes low =
    let same = one_batch widest widest_shape c.args.batch.now batch c.in-Ok.batch denotes c.in-Ok.ensures.batch in
    rw same (c.plan_text.ensures.cost plain k (rw same at low))
