use Rattle.std.proofs.Common.{append_assoc}
use Rattle.schedule_picture.specs.Picture.{heading_text}
use Rattle.schedule_picture.proofs.Texts.{two}
use Rattle.schedule_picture.proofs.picture.push_heading.Goals as goal

pub returns : goal.returns
unfolding heading_text
returns c = two c.push_length.result _ _ _ _ _ (heading_text c.args.transfers c.args.settings c.args.fewest) c.in_ok-write.ensures.bytes c.push_length.ensures
    (simp append_assoc)
