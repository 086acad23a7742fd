use Rattle.std.proofs.Common.{◌≡◌, ◌++◌}
use Rattle.std.specs.List.{flat_map, range_with_len}
use Rattle.rack_answers.specs.Reports.{block_text}
use Rattle.rack_answers.proofs.report.push_module.Given as goal

abbrev pub invariant-loop-block : goal.invariant-loop-block
invariant-loop-block l = (l.text.items ≡ l.initial.text.items ++ flat_map (block_text l.written l.rack l.«module») (range_with_len 0 l.block))
    × (l.block-end ≡ l.rack.shape.blocks)
