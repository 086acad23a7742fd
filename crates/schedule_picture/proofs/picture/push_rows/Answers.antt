use Rattle.std.proofs.Common.{◌++◌, ap, ◌∙◌, List, ℕ, string_bytes, arith}
use Rattle.std.specs.List.{flat_map, range_with_len}
use Rattle.schedule_picture.specs.RowsText.{row_text}
use Rattle.schedule_picture.specs.Picture.{rows_text}
use Rattle.schedule_picture.proofs.Table.{all_modules}
use Rattle.batch.proofs.Lists.{more_parts}
use Rattle.schedule_picture.proofs.picture.push_rows.Goals as goal

pub loop-module-preserved : goal.loop-module-preserved
loop-module-preserved c =
    let f = row_text c.args.rows.now c.args.columns c.args.busiest in
    c.in_ok-push_row.ensures ∙ ap (λ (x : List ℕ). x ++ f c.loop-module.«module») c.loop-module.invariant ∙ more_parts f (string_bytes c.args.text.now)
    c.loop-module.«module»

pub returns : goal.returns
unfolding rows_text
returns c =
    let f = row_text c.args.rows.now c.args.columns c.args.busiest in
    c.loop-module.invariant ∙ ap (λ (n : ℕ). string_bytes c.args.text.now ++ flat_map f (range_with_len 0 n)) (all_modules c.loop-module.«module» (omega arith))
