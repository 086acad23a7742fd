use Rattle.std.proofs.Common.{append_assoc}
use Rattle.schedule_picture.specs.RowsText.{lane_text}
use Rattle.schedule_picture.proofs.Texts.{four}
use Rattle.schedule_picture.proofs.rows_text.push_lane.Goals as goal

pub returns : goal.returns
unfolding lane_text
returns c =
    four c.write.result _ _ _ _ _ _ _ _ _ (lane_text c.args.marked c.args.link c.args.top c.args.width)
    c.in_ok-push_lane_title.ensures
    c.in_ok-push_box.ensures
    c.in_ok-push_text_start.ensures
    c.write.ensures.bytes
    (simp (append_assoc, c.number-end.ensures, c.half_below.ensures.value))
