use Rattle.schedule_picture.proofs.Needed.{needed}
use Rattle.schedule_picture.proofs.laws.tells_needed_changes.Goals as goal

pub returns : goal.returns
returns c = needed
