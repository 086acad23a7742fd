use Rattle.std.proofs.Common.{◌≡◌, ◌+◌, ℕ, ◌<◌, IsSome}
use Rattle.alternating_path.specs.Cells.{holder_at}
use Rattle.alternating_path.proofs.table.Table.free_colour.Given as goal

abbrev pub invariant-loop-colour : goal.invariant-loop-colour
invariant-loop-colour l = ((c : ℕ) → c < l.colour → IsSome (holder_at l.self-inside.cells.items c l.place)) × (l.steps ≡ l.fn.steps + l.colour)
