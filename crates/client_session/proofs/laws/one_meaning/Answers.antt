use Rattle.client_session.proofs.OneMeaning.{means_one}
use Rattle.client_session.proofs.laws.one_meaning.Goals as goal

pub returns : goal.returns
returns c = means_one
