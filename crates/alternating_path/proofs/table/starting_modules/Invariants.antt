use Rattle.std.proofs.Common.{ℕ, ◌<◌, ◌≤◌, length}
use Rattle.link_graph.specs.declared.link.End.TheVariants.{Zero}
use Rattle.alternating_path.specs.Cells.{place_at}
use Rattle.alternating_path.proofs.table.starting_modules.Given as goal

abbrev pub invariant-loop-module : goal.invariant-loop-module
invariant-loop-module l = record {
  few : l.count ≤ l.«module»;
  below : (t : ℕ) → t < length l.graph → place_at l.graph t Zero < l.«module» → place_at l.graph t Zero < l.count;
}
