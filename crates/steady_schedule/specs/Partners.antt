-- Partners of a link.
use Rattle.std.specs.Prelude.{◌≡◌, ℕ, ◌<◌, ◌≤◌, List, length, Bool, ◌&&◌, ◌==◌}
use Rattle.std.specs.List.{list_any}
use Rattle.batch.specs.declared.limits.TheConstants.{MAX_MODULES}
use Rattle.batch.specs.declared.transfer.Transfer.{Transfer}
use Rattle.link_graph.specs.declared.limits.TheConstants.{LINKS}
use Rattle.link_graph.specs.declared.link.Link.{Link}
use Rattle.link_graph.specs.Links.{StandsBefore, link_index, other_end}
use Rattle.link_graph.specs.Counts.{count_below, module_at}
use Rattle.link_graph.specs.Masks.{has_pair}

-- whether the transfer uses the link, and joins it to that of module m
abbrev pub joins_to : Link → ℕ → Transfer → Bool
joins_to link m x = module_at link.end x == link.«module» && module_at (other_end link.end) x == m

-- how many different links share a transfer of the batch with the link
unfoldable pub partners : List Transfer → Link → ℕ
partners batch link = count_below MAX_MODULES (λ m. list_any (joins_to link m) batch)

-- the link has partners, no link has more, and each one before it has fewer
pub record HasMostPartners (batch : List Transfer) (link : Link) : Type 0 where
  pub some : 0 < partners batch link
  pub most : (other : Link) → partners batch other ≤ partners batch link
  pub first : (other : Link) → StandsBefore other link
      → partners batch other < partners batch link

-- at the place of each link, the mask of the modules that the transfers join it to
pub record ArePartnerMasks (transfers : List Transfer) (masks : List ℕ) : Type 0 where
  pub places : length masks ≡ LINKS
  pub at : (link : Link) (m : ℕ) → link.«module» < MAX_MODULES → m < MAX_MODULES
      → has_pair masks (link_index link) m ≡ list_any (joins_to link m) transfers
