use Rattle.std.proofs.Common.{◌≡◌, Some, ap, map, subst}
use Rattle.batch_book.specs.History.{BookView}
use Rattle.module_memory.specs.Store.{Store}
use Rattle.session_answers.specs.Serving.{AreServed, served, refused}
use Rattle.session_answers.proofs.Sessions.{both}
use Rattle.session_answers.proofs.serving.answer_serve.Goals as goal

pub returns : goal.returns
returns g c =
    let left = c.in_ok-answer.field-0 in
    let opening : c.in-Ok-new.book.opening ≡ c.in-Ok.rack = ap (λ (a : BookView). a.opening) c.in-Ok-new.ensures.ok in
    served c.in-Ok.rack c.in-Ok.ensures.rack (subst (λ (s : Store). AreServed s (map (λ v. v.items) c.args.scripts.now) left.answer (Some left.book)) opening
    c.in_ok-answer.ensures)

pub returns-in-Err : goal.returns-in-Err
returns-in-Err g c =
    both c.refused.result c.refused.ensures.answer c.refused.ensures.book (λ closing is left. refused c.in-Err.refusal (c.in-Err.ensures.wrong is.0) is left)
