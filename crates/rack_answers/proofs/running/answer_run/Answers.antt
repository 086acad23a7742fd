use Rattle.std.proofs.lemmas.Result.{IfOk-weaker}
use Rattle.plan_answers.specs.Answers.{IsOnly}
use Rattle.plan_answers.specs.Lent.{bytes_of}
use Rattle.plan_answers.specs.Refusals.{Refuses}
use Rattle.plan_answers.specs.Schedules.{said_by}
use Rattle.rack_answers.specs.Answers.{IsRunAnswer, ran, run_refused}
use Rattle.rack_answers.proofs.OneRun.{one_reported}
use Rattle.rack_answers.proofs.Ran.{reported}
use Rattle.rack_answers.proofs.running.answer_run.Goals as goal

pub returns-in_ok-report_text-in-Ok-clause-ran : goal.returns-in_ok-report_text-in-Ok-clause-ran
returns-in_ok-report_text-in-Ok-clause-ran g c =
    let text = rw c.tells_changes-told.ensures at c.in_ok-report_text-in-Ok.ensures in
    let is = reported (said_by c.args.source) c.args.shape.now c.args.batch.now (bytes_of c.args.image) c.in-Ok.scheduled c.in-Ok.rack
    c.in_ok-report_text-in-Ok.field-0.items c.in-Ok.ensures.ran text in
    ran (rw c.done.ensures.text is) c.done.ensures.status

pub returns-in_ok-report_text-in-Ok-clause-one : goal.returns-in_ok-report_text-in-Ok-clause-one
returns-in_ok-report_text-in-Ok-clause-one g c = λ some. one_reported c.args.source some c.args.shape.now c.args.batch.now (bytes_of c.args.image) c.done.result
    (returns-in_ok-report_text-in-Ok-clause-ran g c)

pub returns-in-Err-clause-ran : goal.returns-in-Err-clause-ran
returns-in-Err-clause-ran g c =
    IfOk-weaker c.refused.result (Refuses c.in-Err.refusal) (IsRunAnswer (said_by c.args.source) c.args.shape.now c.args.batch.now (bytes_of c.args.image))
    (λ p is. run_refused c.in-Err.refusal (c.in-Err.ensures.wrong is.0) is.1) c.refused.ensures

pub returns-in-Err-clause-one : goal.returns-in-Err-clause-one
returns-in-Err-clause-one g c some =
    let IsAnswer = IsRunAnswer (said_by c.args.source) c.args.shape.now c.args.batch.now (bytes_of c.args.image) in
    IfOk-weaker c.refused.result IsAnswer (IsOnly IsAnswer)
    (one_reported c.args.source some c.args.shape.now c.args.batch.now (bytes_of c.args.image)) (returns-in-Err-clause-ran g c)
