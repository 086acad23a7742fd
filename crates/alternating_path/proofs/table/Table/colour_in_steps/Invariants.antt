use Rattle.std.proofs.Common.{◌≡◌, ◌+◌, ◌≢◌, ℕ, ◌<◌, Some}
use Rattle.alternating_path.specs.Cells.{holder_at}
use Rattle.alternating_path.proofs.table.Table.colour_in_steps.Given as goal

abbrev pub invariant-loop-colour : goal.invariant-loop-colour
invariant-loop-colour l = ((c : ℕ) → c < l.colour → holder_at l.self-inside.cells.items c l.place ≢ Some l.t) × (l.steps ≡ l.fn.steps + l.colour)
