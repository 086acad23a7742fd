use Rattle.rack_answers.proofs.HeldSettings.{held_is_settled}
use Rattle.rack_answers.proofs.laws.held_is_settled.Goals as goal

pub returns : goal.returns
returns c = held_is_settled
