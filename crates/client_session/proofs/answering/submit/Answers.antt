use Rattle.std.proofs.Common.{◌∙◌, ap, rules}
use Rattle.refusals.specs.Refusals.{refusal_line}
use Rattle.client_session.proofs.Doing.{faulty}
use Rattle.client_session.proofs.answering.submit.Goals as goal

pub returns-in-Err-clause-done : goal.returns-in-Err-clause-done
returns-in-Err-clause-done g c = faulty _ c.shape.result c.args.text.now c.in-Err.fault _ c.shape.ensures c.in-Err.ensures.fault
    (c.refuse.ensures ∙ ap refusal_line c.from.ensures)

pub returns-in-Ok : goal.returns-in-Ok
returns-in-Ok g c = search rules
