use Rattle.client_session.proofs.Listening.{tells_nothing}
use Rattle.client_session.proofs.serving.send_replies_if_due.Goals as goal

pub returns-in-Some-clause-beside : goal.returns-in-Some-clause-beside
returns-in-Some-clause-beside g c = tells_nothing _
