use Rattle.std.proofs.Common.{append_assoc}
use Rattle.schedule_picture.specs.RowsText.{label_text}
use Rattle.schedule_picture.proofs.Texts.{three}
use Rattle.schedule_picture.proofs.rows_text.push_label.Goals as goal

pub returns : goal.returns
unfolding label_text
returns c =
    three c.write.result _ _ _ _ _ _ _ (label_text c.args.«module» c.args.top)
    c.in_ok-push_coloured.ensures
    c.in_ok-push_text_start.ensures
    c.write.ensures.bytes
    (simp append_assoc)
