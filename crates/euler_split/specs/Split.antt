-- Two halves of some transfers of a batch. H. N. Gabow, "Using Euler partitions to edge color
-- bipartite multigraphs", 1976: the edges of a graph fall into two halves in each of which every
-- node has half of its edges, rounded up or down.
use Rattle.std.specs.Prelude.{ℕ, ◌+◌, ◌/◌, ◌≤◌, List, ◌++◌}
use Rattle.std.specs.List.Sorted.{IsPermutation}
use Rattle.batch.specs.declared.transfer.Transfer.{Transfer}
use Rattle.link_graph.specs.declared.link.Link.{Link}
use Rattle.link_graph.specs.Counts.{uses}
use Rattle.link_graph.specs.Marks.{members}

-- how many of the transfers of these numbers use the link
abbrev pub uses_among : List Transfer → List ℕ → Link → ℕ
uses_among batch ts link = uses (members batch ts) link

-- The two halves together are the whole in another order, so each of its numbers stands in just one
-- of them. In each half a link has at most half of its uses, rounded up.
pub record IsSplit (batch : List Transfer) (whole left right : List ℕ) : Type 0 where
  pub parts : IsPermutation whole (left ++ right)
  pub left_uses : (link : Link) → uses_among batch left link ≤ (uses_among batch whole link + 1) / 2
  pub right_uses : (link : Link)
      → uses_among batch right link ≤ (uses_among batch whole link + 1) / 2
