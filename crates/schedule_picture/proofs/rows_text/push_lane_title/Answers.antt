use Rattle.std.proofs.Common.{append_assoc}
use Rattle.schedule_picture.specs.RowsText.{lane_title}
use Rattle.schedule_picture.proofs.Texts.{three, put}
use Rattle.schedule_picture.proofs.rows_text.push_lane_title.Goals as goal

pub returns : goal.returns
unfolding lane_title
returns c =
    three c.push_str-2.result _ _ _ _ _ _ _ (lane_title c.args.marked c.args.link)
    c.in_ok-push_str.ensures.bytes
    c.in_ok-push_link.ensures
    (put c.push_str-2.result _ _ _ c.push_str-2.ensures.bytes)
    (simp (append_assoc, c.looks.ensures))
