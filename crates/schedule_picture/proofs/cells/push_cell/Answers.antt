use Rattle.std.proofs.Common.{append_assoc}
use Rattle.schedule_picture.specs.Cells.{cell_text}
use Rattle.schedule_picture.proofs.Texts.{five}
use Rattle.schedule_picture.proofs.cells.push_cell.Goals as goal

pub returns : goal.returns
unfolding cell_text
returns c =
    five c.push_number.result _ _ _ _ _ _ _ _ _ _ _ (cell_text c.args.rows.now c.args.column c.args.number c.args.transfer.now c.args.end)
    c.in_ok-push_title.ensures
    c.in_ok-push_coloured.ensures
    c.in_ok-push_text_start.ensures
    c.in_ok-write.ensures.bytes
    c.push_number.ensures
    (simp (
      append_assoc,
      c.arrow-arrow.ensures,
      c.module_at-partner.ensures,
      c.other.ensures,
      c.column_left-left.ensures.value,
      c.top.ensures.value,
      c.panel.ensures,
      c.module_at.ensures,
      c.half_below.ensures.value,
    ))
