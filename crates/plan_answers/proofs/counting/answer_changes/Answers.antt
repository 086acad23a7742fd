use Rattle.std.proofs.Common.{◌≡◌, ◌∙◌, ap, refl, append_assoc}
use Rattle.std.proofs.lemmas.Result.{IfOk-weaker}
use Rattle.batch.specs.ShapeView.{widest}
use Rattle.plan_answers.specs.Counting.{changes_line, IsCounted, counted, uncounted}
use Rattle.plan_answers.specs.Refusals.{Refuses}
use Rattle.plan_answers.specs.Validities.{IsScheduleRead}
use Rattle.plan_answers.proofs.counting.answer_changes.Goals as goal

pub returns-in_ok-line-in-Ok : goal.returns-in_ok-line-in-Ok
returns-in_ok-line-in-Ok c =
    let texts = c.in-Ok.texts in
    let verdict = c.in_ok-verdict-in-Ok.verdict in
    let line : c.done.result.text ≡ changes_line verdict.changes verdict.least = c.done.ensures.text ∙ ap (λ v. v.items) c.into_bytes.ensures.value
    ∙ (c.in_ok-line-in-Ok.ensures.ok ∙ simp append_assoc) in
    let read : IsScheduleRead widest c.args.batch.now c.args.schedule.now texts.batch texts.schedule =
    record { certificate = texts.certificate; texts = c.in-Ok.ensures.texts; valid = c.in-Ok.ensures.valid } in (
      _,
      counted (record {
        transfers = texts.batch;
        settings = texts.schedule;
        verdict = verdict;
        valid =
            record { read = read; known = c.in_ok-verdict-in-Ok.ensures };
        line = line;
      }) refl c.done.ensures.status,
    )

pub returns-in-Err : goal.returns-in-Err
returns-in-Err c =
    IfOk-weaker c.refused.result (Refuses c.in-Err.refusal) (IsCounted widest c.args.batch.now c.args.schedule.now)
    (λ p is. (0, uncounted c.in-Err.refusal (c.in-Err.ensures.invalid is.0) is.1)) c.refused.ensures
