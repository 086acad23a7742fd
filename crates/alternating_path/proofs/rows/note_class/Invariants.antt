use Rattle.std.proofs.Common.{◌≡◌, ◌+◌}
use Rattle.alternating_path.specs.Cells.{AreNoted}
use Rattle.alternating_path.proofs.rows.note_class.Given as goal

abbrev pub invariant-loop-holder : goal.invariant-loop-holder
invariant-loop-holder l = AreNoted l.starts l.holder-index l.colour l.initial.list l.list × (l.steps ≡ l.fn.steps + l.holder-index)
