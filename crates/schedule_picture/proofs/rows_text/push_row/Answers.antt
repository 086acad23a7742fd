use Rattle.std.proofs.Common.{◌++◌, ap, ◌∙◌, List, ℕ, string_bytes}
use Rattle.schedule_picture.specs.RowsText.{part_text}
use Rattle.batch.proofs.Lists.{more_parts}
use Rattle.schedule_picture.proofs.rows_text.push_row.Goals as goal

pub loop-panel-preserved : goal.loop-panel-preserved
loop-panel-preserved c =
    let f = part_text c.args.rows.now c.args.columns c.args.busiest c.args.«module» in
    record {
      so_far = c.in_ok-push_part.ensures ∙ ap (λ (x : List ℕ). x ++ f c.loop-panel.panel) c.loop-panel.invariant.so_far
          ∙ more_parts f (string_bytes c.args.text.now) c.loop-panel.panel;
      all = c.loop-panel.invariant.all;
    }
