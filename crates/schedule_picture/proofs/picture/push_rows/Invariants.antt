use Rattle.std.proofs.Common.{◌≡◌, ◌++◌, string_bytes}
use Rattle.std.specs.List.{flat_map, range_with_len}
use Rattle.schedule_picture.specs.RowsText.{row_text}
use Rattle.schedule_picture.proofs.picture.push_rows.Given as goal

abbrev pub invariant-loop-module : goal.invariant-loop-module
invariant-loop-module l = string_bytes l.text ≡ string_bytes l.initial.text ++ flat_map (row_text l.rows l.columns l.busiest) (range_with_len 0 l.«module»)
