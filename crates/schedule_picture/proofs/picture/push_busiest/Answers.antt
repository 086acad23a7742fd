use Rattle.std.proofs.Common.{refl}
use Rattle.schedule_picture.specs.Picture.{busiest_words}
use Rattle.schedule_picture.proofs.Texts.{two}
use Rattle.schedule_picture.proofs.picture.push_busiest.Goals as goal

pub returns : goal.returns
returns c = two c.push_link.result _ _ _ _ _ (busiest_words c.args.busiest) c.in_ok-push_str.ensures.bytes c.push_link.ensures (rw c.in-Some.is refl)
