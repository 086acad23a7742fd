-- How contracts see the latches of a switch: the map from the outputs that have an input.
use Rattle.std.specs.Prelude.{ℕ, ◌+◌, List, [], ◌∷◌, Option, Some, None}
use Rattle.std.specs.FinMap as map
use Rattle.crossbar.specs.Switch.{Sources}

-- the outputs with their inputs, where the outputs are numbered from the given one on
abbrev pub connections : ℕ → List (Option ℕ) → List (ℕ × ℕ)
connections output [] = []
connections output (None ∷ latches) = connections (output + 1) latches
connections output (Some input ∷ latches) = (output, input) ∷ connections (output + 1) latches

-- the map of a row of latches
abbrev pub sources_of : List (Option ℕ) → Sources
sources_of latches = map.from_entries (connections 0 latches)
