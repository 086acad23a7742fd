use Rattle.std.proofs.Common.{◌≡◌, ◌++◌, string_bytes}
use Rattle.std.specs.List.{flat_map, range_with_len}
use Rattle.schedule_picture.specs.Places.{panels_of}
use Rattle.schedule_picture.specs.RowsText.{heading_at}
use Rattle.schedule_picture.proofs.rows_text.push_headings.Given as goal

abbrev pub invariant-loop-panel : goal.invariant-loop-panel
invariant-loop-panel l = record {
  so_far : string_bytes l.text ≡ string_bytes l.initial.text ++ flat_map (heading_at l.rows) (range_with_len 0 l.panel);
  all : l.panel-end ≡ panels_of l.columns;
}
