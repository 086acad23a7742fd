use Rattle.schedule_picture.proofs.Overlaps.{overlapping}
use Rattle.schedule_picture.proofs.laws.nothing_overlaps.Goals as goal

pub returns : goal.returns
returns c = overlapping
