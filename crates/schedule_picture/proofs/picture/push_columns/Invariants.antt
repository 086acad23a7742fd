use Rattle.std.proofs.Common.{◌≡◌, ◌+◌, ◌++◌, string_bytes}
use Rattle.std.specs.List.{flat_map, range_with_len}
use Rattle.schedule_picture.specs.Picture.{setting_text}
use Rattle.schedule_picture.proofs.picture.push_columns.Given as goal

abbrev pub invariant-loop-j : goal.invariant-loop-j
invariant-loop-j l = string_bytes l.text ≡ string_bytes l.initial.text ++ flat_map (λ j. setting_text l.rows l.schedule j (l.shown.first + j))
    (range_with_len 0 l.j)
