use Rattle.std.proofs.Common.{◌≡◌, codes, inl, refl, Some}
use Rattle.client_session.specs.declared.command.SessionCommand.TheVariants.{Batch, Progress, Bye}
use Rattle.refusals.specs.declared.refusal.Refusal.TheVariants as refusal
use Rattle.refusals.specs.Refusals.{refusal_line}
use Rattle.client_session.specs.Replies.{with_feed}
use Rattle.client_session.proofs.Doing.{says, read_progress, which}
use Rattle.client_session.proofs.answering.answer.Goals as goal

pub returns-in-None-clause-done : goal.returns-in-None-clause-done
returns-in-None-clause-done g c = rw c.in-None.is (λ text. says _ _ (refusal_line refusal.Line) c.refuse.new.self refl c.refuse.ensures)

pub returns-in-Some-Batch-clause-done : goal.returns-in-Some-Batch-clause-done
returns-in-Some-Batch-clause-done g c =
    let is : c.args.command ≡ Some (Batch c.in-Some-Batch.field-0-0) = which _ _ _ c.in-Some-Batch.is (rw c.in-Some-Batch.is at c.in-Some-Batch.field-0-is) in
    let many = rw is at c.requires.alone in
    rw is (λ text. says _ _ (refusal_line refusal.TooMany) c.refuse-in-Some-Batch.new.self (inl (many, refl)) c.refuse-in-Some-Batch.ensures)

pub returns-in-Some-Progress-clause-done : goal.returns-in-Some-Progress-clause-done
returns-in-Some-Progress-clause-done g c =
    let is : c.args.command ≡ Some Progress = which _ _ _ c.in-Some-Progress.is (rw c.in-Some-Progress.is at c.in-Some-Progress.field-0-is) in
    rw is (λ text. read_progress _ _ c.progress.result _ c.progress.ensures c.tell_progress.ensures)

pub returns-in-Some-Bye-clause-done : goal.returns-in-Some-Bye-clause-done
returns-in-Some-Bye-clause-done g c =
    let is : c.args.command ≡ Some Bye = which _ _ _ c.in-Some-Bye.is (rw c.in-Some-Bye.is at c.in-Some-Bye.field-0-is) in
    rw is (λ text. says _ _ (with_feed (codes "bye")) _ refl c.tell_bye.ensures)
