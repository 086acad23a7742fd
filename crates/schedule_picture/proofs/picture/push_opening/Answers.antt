use Rattle.std.proofs.Common.{append_assoc}
use Rattle.schedule_picture.specs.Picture.{opening_text, style_text}
use Rattle.schedule_picture.proofs.Texts.{three}
use Rattle.schedule_picture.proofs.picture.push_opening.Goals as goal

pub returns : goal.returns
unfolding opening_text style_text
returns c =
    three c.push_caption.result _ _ _ _ _ _ _ (opening_text c.args.rows.now c.args.settings c.args.verdict c.args.shown)
    c.in_ok-push_title.ensures
    c.in_ok-push_str.ensures.bytes
    c.push_caption.ensures
    (simp append_assoc)
