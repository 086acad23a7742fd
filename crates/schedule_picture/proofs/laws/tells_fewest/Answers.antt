use Rattle.schedule_picture.proofs.Fewest.{tells_fewest}
use Rattle.schedule_picture.proofs.laws.tells_fewest.Goals as goal

pub returns : goal.returns
returns c = tells_fewest
