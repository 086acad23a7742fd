use Rattle.client_session.proofs.Listening.{tells_one}
use Rattle.client_session.proofs.serving.tell_refusal.Goals as goal

pub returns-in-Some : goal.returns-in-Some
returns-in-Some g c = tells_one c.on_refusal.ensures
