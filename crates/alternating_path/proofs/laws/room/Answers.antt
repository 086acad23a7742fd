use Rattle.alternating_path.proofs.Held.{room}
use Rattle.alternating_path.proofs.laws.room.Goals as goal

pub returns : goal.returns
returns c = room
