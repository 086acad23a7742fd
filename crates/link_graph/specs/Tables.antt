-- What a graph keeps of its batch: the transfers, and how many of them use each link, in the order
-- of links.
use Rattle.std.specs.Prelude.{◌≡◌, ℕ, ◌<◌, List, [], ◌∷◌, ◌++◌, length, slice_index}
use Rattle.batch.specs.declared.limits.TheConstants.{MAX_MODULES}
use Rattle.batch.specs.declared.transfer.Transfer.{Transfer}
use Rattle.batch.specs.Batches.{IsBatch}
use Rattle.link_graph.specs.declared.limits.TheConstants.{LINKS}
use Rattle.link_graph.specs.declared.link.Link.{Link}
use Rattle.link_graph.specs.Links.{link_index}
use Rattle.link_graph.specs.Counts.{uses}

-- at the place of each link, how many of the transfers use it
pub record AreCounts (counts : List ℕ) (transfers : List Transfer) : Type 0 where
  pub places : length counts ≡ LINKS
  pub at : (link : Link) → link.«module» < MAX_MODULES
      → slice_index counts (link_index link) ≡ uses transfers link

-- what the graph of a batch keeps
pub record IsGraph (counts : List ℕ) (batch : List Transfer) : Type 0 where
  pub batch_fits : IsBatch batch
  pub counted : AreCounts counts batch

-- the new table counts one more transfer than the old
abbrev pub CountsOneMore : List ℕ → List ℕ → Transfer → Type 0
CountsOneMore old new transfer =
    (before : List Transfer) → AreCounts old before → AreCounts new (before ++ transfer ∷ [])
