use Rattle.std.proofs.Common.{◌≡◌, ◌++◌, take, string_bytes}
use Rattle.std.specs.List.{flat_map}
use Rattle.schedule_picture.specs.Cells.{transfer_cells}
use Rattle.schedule_picture.proofs.cells.push_column.Given as goal

abbrev pub invariant-loop-number : goal.invariant-loop-number
invariant-loop-number l = string_bytes l.text ≡ string_bytes l.initial.text ++ flat_map (transfer_cells l.rows l.column) (take l.number-index l.numbers)
