-- The pairs of a setting, by a table of the responder of each initiator.
use Rattle.std.specs.Prelude.{ℕ, ◌+◌, List, [], ◌∷◌, Option, Some, None}
use Rattle.crossbar.specs.declared.pair.Pair.{Pair}

-- the pairs of a table, whose initiators are numbered from the given one on
abbrev pub table_pairs : ℕ → List (Option ℕ) → List Pair
table_pairs initiator [] = []
table_pairs initiator (None ∷ table) = table_pairs (initiator + 1) table
table_pairs initiator (Some responder ∷ table) =
    record { initiator = initiator; responder = responder } ∷ table_pairs (initiator + 1) table
