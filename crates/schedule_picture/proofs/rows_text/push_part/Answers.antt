use Rattle.std.proofs.Common.{append_assoc}
use Rattle.schedule_picture.specs.RowsText.{part_text}
use Rattle.schedule_picture.proofs.Texts.{three}
use Rattle.schedule_picture.proofs.rows_text.push_part.Goals as goal

pub returns : goal.returns
unfolding part_text
returns c =
    three c.push_half-2.result _ _ _ _ _ _ _ (part_text c.args.rows.now c.args.columns c.args.busiest c.args.«module» c.args.panel)
    c.in_ok-push_label.ensures
    c.in_ok-push_half.ensures
    c.push_half-2.ensures
    (simp (append_assoc, c.top.ensures.value))
