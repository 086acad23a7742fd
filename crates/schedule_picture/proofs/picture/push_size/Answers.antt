use Rattle.std.proofs.Common.{append_assoc}
use Rattle.schedule_picture.specs.Picture.{size_text}
use Rattle.schedule_picture.proofs.Texts.{one}
use Rattle.schedule_picture.proofs.picture.push_size.Goals as goal

pub returns : goal.returns
unfolding size_text
returns c = one c.write.result _ _ _ (size_text c.args.width c.args.height) c.write.ensures.bytes (simp append_assoc)
