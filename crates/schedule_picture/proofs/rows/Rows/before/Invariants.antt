use Rattle.std.proofs.Common.{◌≡◌, ◌≤◌}
use Rattle.schedule_picture.specs.Places.{row_of}
use Rattle.schedule_picture.proofs.rows.Rows.before.Given as goal

abbrev pub invariant-loop-m : goal.invariant-loop-m
invariant-loop-m l = record { counted : l.rows ≡ row_of l.self l.m; few : l.rows ≤ l.m }
