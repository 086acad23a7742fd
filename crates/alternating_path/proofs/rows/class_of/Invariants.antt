use Rattle.std.proofs.Common.{◌≡◌, ◌+◌, take}
use Rattle.std.specs.List.{filter_map}
use Rattle.alternating_path.proofs.rows.class_of.Given as goal

abbrev pub invariant-loop-holder : goal.invariant-loop-holder
invariant-loop-holder l = (l.class.items ≡ filter_map (λ holder. holder) (take l.holder-index l.starts)) × (l.steps ≡ l.fn.steps + l.holder-index)
