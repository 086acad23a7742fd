use Rattle.std.proofs.Common.{append_assoc}
use Rattle.schedule_picture.specs.Picture.{closing_text, explained_text}
use Rattle.schedule_picture.proofs.Texts.{three, put}
use Rattle.schedule_picture.proofs.picture.push_closing.Goals as goal

pub returns : goal.returns
unfolding closing_text explained_text
returns c =
    three c.push_str-2.result _ _ _ _ _ _ _ (closing_text c.args.rows.now c.args.columns)
    c.in_ok-write.ensures.bytes
    c.in_ok-push_str.ensures.bytes
    (put c.push_str-2.result _ _ _ c.push_str-2.ensures.bytes)
    (simp (append_assoc, c.below-below.ensures.value))
