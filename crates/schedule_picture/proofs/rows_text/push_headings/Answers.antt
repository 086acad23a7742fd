use Rattle.std.proofs.Common.{◌++◌, ap, ◌∙◌, List, ℕ, string_bytes, arith}
use Rattle.std.specs.List.{flat_map, range_with_len}
use Rattle.schedule_picture.specs.RowsText.{heading_at, headings_text}
use Rattle.batch.proofs.Lists.{more_parts}
use Rattle.schedule_picture.proofs.rows_text.push_headings.Goals as goal

pub loop-panel-preserved : goal.loop-panel-preserved
loop-panel-preserved c = record {
  so_far = c.in_ok-push_heading.ensures ∙ ap (λ (x : List ℕ). x ++ heading_at c.args.rows.now c.loop-panel.panel) c.loop-panel.invariant.so_far
      ∙ more_parts (heading_at c.args.rows.now) (string_bytes c.args.text.now) c.loop-panel.panel;
  all = c.loop-panel.invariant.all;
}

pub returns : goal.returns
unfolding headings_text
returns c = c.loop-panel.invariant.so_far ∙ ap (λ (n : ℕ). string_bytes c.args.text.now ++ flat_map (heading_at c.args.rows.now) (range_with_len 0 n)) (omega arith)
