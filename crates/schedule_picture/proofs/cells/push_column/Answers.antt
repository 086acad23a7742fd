use Rattle.std.proofs.Common.{◌≡◌, ◌++◌, ap, ◌∙◌, List, ℕ, string_bytes, get_or, append_assoc, arith}
use Rattle.std.specs.List.{flat_map}
use Rattle.std.proofs.lemmas.List.{take_all}
use Rattle.schedule_picture.specs.Cells.{transfer_cells, column_text}
use Rattle.schedule_picture.proofs.Texts.{both, more_items}
use Rattle.schedule_picture.proofs.cells.push_column.Goals as goal

pub loop-number-preserved : goal.loop-number-preserved
loop-number-preserved c =
    let f = transfer_cells c.args.rows.now c.args.column in
    c.in_ok-push_transfer.ensures ∙ ap (λ (x : List ℕ). x ++ f (get_or c.args.numbers.now c.loop-number.number-index 0)) c.loop-number.invariant
    ∙ more_items f (string_bytes c.write.new.self) c.args.numbers.now c.loop-number.number-index (omega arith)

pub returns : goal.returns
unfolding column_text
returns c =
    let all = take_all c.loop-number.number-index c.args.numbers.now c.loop-number-test.false in
    let cells : string_bytes c.loop-number.text ≡ string_bytes c.write.new.self ++ flat_map (transfer_cells c.args.rows.now c.args.column) c.args.numbers.now =
    rw all at c.loop-number.invariant in
    both _ _ _ _ _ (column_text c.args.rows.now c.args.column c.args.setting c.args.numbers.now) c.in_ok-write.ensures.bytes cells
    (simp (append_assoc, c.column_left.ensures.value, c.panel_top.ensures.value, c.panel.ensures))
