-- The batch of a text fits the rack of its shape.
use Rattle.std.proofs.Common.{ℕ, List, []}
use Rattle.std.proofs.lemmas.List.Elements.{All-get_or}
use Rattle.batch.specs.declared.transfer.Transfer.{Transfer}
use Rattle.batch.specs.ShapeView.{ShapeView}
use Rattle.batch.specs.Text.{IsWithin, Denotes}
use Rattle.batch.specs.Overlap.{transfer_at}
use Rattle.batch.proofs.Places.{places_within}
use Rattle.module_memory.specs.Core.{FitsIn}

-- the blocks of a batch that a text denotes are those of the shape
pub fits_in : (shape : ShapeView) (text : List ℕ) (ts : List Transfer) → Denotes shape text ts → FitsIn shape ts
fits_in shape text ts denotes i below = places_within shape (transfer_at ts i) (All-get_or (IsWithin shape) ts i (transfer_at [] 0) below denotes.within)
