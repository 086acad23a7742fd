use Rattle.client_session.proofs.Doing.{can_be_told, called}
use Rattle.client_session.proofs.answering.call.Goals as goal

pub tell-requires-clause-can : goal.tell-requires-clause-can
tell-requires-clause-can g c =
    let made = rw c.in-Ok.is at c.call-made.ensures.ok in
    can_be_told c.args.call c.in-Ok.reply c.requires.other made.answers

pub returns-in-Ok-clause-done : goal.returns-in-Ok-clause-done
returns-in-Ok-clause-done g c = called _ _ c.args.id c.args.call c.in-Ok.reply _ (rw c.in-Ok.is at c.call-made.ensures.ok) c.tell.ensures
