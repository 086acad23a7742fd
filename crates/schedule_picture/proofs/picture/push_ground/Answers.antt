use Rattle.std.proofs.Common.{append_assoc}
use Rattle.schedule_picture.specs.Picture.{ground_text}
use Rattle.schedule_picture.proofs.Texts.{one}
use Rattle.schedule_picture.proofs.picture.push_ground.Goals as goal

pub returns : goal.returns
unfolding ground_text
returns c = one c.write.result _ _ _ (ground_text c.args.width c.args.height) c.write.ensures.bytes (simp append_assoc)
