use Rattle.std.proofs.Common.{append_assoc}
use Rattle.schedule_picture.specs.RowsText.{heading_at}
use Rattle.schedule_picture.proofs.Texts.{one}
use Rattle.schedule_picture.proofs.rows_text.push_heading.Goals as goal

pub returns : goal.returns
unfolding heading_at
returns c = one c.write.result _ _ _ (heading_at c.args.rows.now c.args.panel) c.write.ensures.bytes (simp (append_assoc, c.panel_top.ensures.value))
