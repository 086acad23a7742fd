use Rattle.std.proofs.Common.{append_assoc}
use Rattle.schedule_picture.specs.Picture.{title_part}
use Rattle.schedule_picture.proofs.Texts.{five, put}
use Rattle.schedule_picture.proofs.picture.push_title.Goals as goal

pub returns : goal.returns
unfolding title_part
returns c =
    five c.push_str-2.result _ _ _ _ _ _ _ _ _ _ _ (title_part c.args.rows.now c.args.settings c.args.verdict c.args.shown)
    c.in_ok-push_size.ensures
    c.in_ok-push_heading.ensures
    c.in_ok-push_str.ensures.bytes
    c.in_ok-push_note.ensures
    (put c.push_str-2.result _ _ _ c.push_str-2.ensures.bytes)
    (simp (append_assoc, c.width.ensures, c.height.ensures, c.transfers.ensures.value))
