-- The transfers of a batch that are placed.
use Rattle.std.specs.Prelude.{ℕ, List, [], ◌∷◌, ◌++◌, drop, Option, is_some, if◌then◌else◌}
use Rattle.batch.specs.declared.transfer.Transfer.{Transfer}
use Rattle.alternating_path.specs.Colouring.{colour_at}

-- those that have a colour, in their order
abbrev pub placed_transfers : List Transfer → List (Option ℕ) → List Transfer
placed_transfers [] colour = []
placed_transfers (x ∷ batch) colour =
    (if is_some (colour_at colour 0) then x ∷ [] else []) ++ placed_transfers batch (drop 1 colour)
