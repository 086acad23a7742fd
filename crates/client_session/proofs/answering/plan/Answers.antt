use Rattle.client_session.proofs.Doing.{settled_or, unplanned, unfetched, told_unfetched}
use Rattle.client_session.proofs.answering.plan.Goals as goal

pub returns-in-Ok-clause-done : goal.returns-in-Ok-clause-done
returns-in-Ok-clause-done g c = settled_or _ _ _ c.args.id c.in-Fetched.batch c.in-Ok.planned _ c.call-in-Ok.result
    (rw c.in-Fetched.is at c.in_ok-reply.ensures.ok) c.in-Ok.ensures.batch c.call-in-Ok.ensures.done

pub returns-in-Err-clause-done : goal.returns-in-Err-clause-done
returns-in-Err-clause-done g c = unplanned _ _ c.args.id c.in-Fetched.batch _ (rw c.in-Fetched.is at c.in_ok-reply.ensures.ok) c.refuse.ensures

pub tell-requires-clause-can : goal.tell-requires-clause-can
tell-requires-clause-can g c = told_unfetched c.args.id c.in_ok-reply.reply c.in_ok-reply.ensures.ok.answers c.in_default.not-Fetched

pub returns-in_default-clause-done : goal.returns-in_default-clause-done
returns-in_default-clause-done g c = unfetched _ _ c.args.id c.in_ok-reply.reply _ c.in_ok-reply.ensures.ok c.in_default.not-Fetched c.tell.ensures
