use Rattle.schedule_picture.specs.Cells.{transfer_cells}
use Rattle.schedule_picture.proofs.Texts.{two}
use Rattle.schedule_picture.proofs.cells.push_transfer.Goals as goal

pub returns : goal.returns
unfolding transfer_cells
returns c =
    two c.push_cell-2.result _ _ _ _ _ (transfer_cells c.args.rows.now c.args.column c.args.number)
    c.in_ok-push_cell.ensures
    c.push_cell-2.ensures
    (simp c.transfers.ensures.value)
