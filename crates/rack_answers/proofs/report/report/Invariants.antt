use Rattle.std.proofs.Common.{◌≡◌, ◌++◌}
use Rattle.std.specs.List.{flat_map, range_with_len}
use Rattle.rack_answers.specs.Reports.{module_text}
use Rattle.rack_answers.proofs.report.report.Given as goal

abbrev pub invariant-loop-module : goal.invariant-loop-module
invariant-loop-module l = (l.text.items ≡ l.initial.text.items ++ flat_map (module_text l.batch l.rack) (range_with_len 0 l.«module»))
    × (l.module-end ≡ l.rack.shape.modules)
