-- Partial edge colourings of the graph of a batch. Its nodes are the links, its edges the
-- transfers; each edge joins a link 0 to a link 3, so the graph is a bipartite multigraph. D.
-- König, "Über Graphen und ihre Anwendung auf Determinantentheorie und Mengenlehre", 1916: where d
-- is the greatest number of edges at a node, d colours suffice for a proper edge colouring of all
-- edges.
use Rattle.std.specs.Prelude.{◌≡◌, ◌≢◌, ℕ, ◌+◌, ◌-◌, ◌^◌, ◌<◌, ◌⊎◌, ◌↔◌, min, List, length}
use Rattle.std.specs.Prelude.{replicate, set, Option, Some, None, IsSome, Contains, slice_index_or}
use Rattle.batch.specs.declared.transfer.Transfer.{Transfer}
use Rattle.link_graph.specs.declared.link.End.{End}
use Rattle.link_graph.specs.declared.link.Link.{Link}
use Rattle.link_graph.specs.Uses.{Uses, AreApart}
use Rattle.alternating_path.specs.Ends.{link_at}

-- some transfers of a batch with a colour each: the batch, how many colours there are, each
-- transfer's colour where it is placed, and how many insertions succeeded
pub record Colouring : Type 0 where
  pub batch : List Transfer
  pub colours : ℕ
  pub colour : List (Option ℕ)
  pub inserted : ℕ

-- the colour of transfer t, where t is placed
abbrev pub colour_at : List (Option ℕ) → ℕ → Option ℕ
colour_at colour t = slice_index_or colour t None

-- the transfer has a colour
abbrev pub HasColour : List (Option ℕ) → ℕ → Type 0
HasColour colour t = IsSome (colour_at colour t)

-- every transfer of the batch has a colour
abbrev pub AllPlaced : Colouring → Type 0
AllPlaced s = (t : ℕ) → t < length s.batch → HasColour s.colour t

-- no transfer of the batch is placed
abbrev pub nothing_placed : List Transfer → ℕ → Colouring
nothing_placed batch colours =
    record {
      batch = batch;
      colours = colours;
      colour = replicate (length batch) None;
      inserted = 0;
    }

-- the colouring is proper: each colour is one of k, and different transfers of one colour use no
-- common link
pub record IsProper (batch : List Transfer) (k : ℕ) (colour : List (Option ℕ)) : Type 0 where
  pub sized : length colour ≡ length batch
  pub below : (t c : ℕ) → colour_at colour t ≡ Some c → c < k
  pub apart : (t u c : ℕ) → t ≢ u → colour_at colour t ≡ Some c → colour_at colour u ≡ Some c
      → AreApart batch t u

-- the table's colouring is proper
abbrev pub IsProperTable : Colouring → Type 0
IsProperTable s = IsProper s.batch s.colours s.colour

-- the colour c is free at the link: no transfer of that colour uses it
pub record IsFree (batch : List Transfer) (colour : List (Option ℕ)) (link : Link)
    (c : ℕ) : Type 0 where
  pub none : (u : ℕ) → colour_at colour u ≡ Some c → Uses batch u link → ⊥

-- the colour c is free at the link that t uses at an end
abbrev pub IsFreeAt : Colouring → ℕ → End → ℕ → Type 0
IsFreeAt s t end c = IsFree s.batch s.colour (link_at s.batch t end) c

-- u has the colour c and uses the link that t uses at an end
abbrev pub TakesAt : Colouring → ℕ → End → ℕ → ℕ → Type 0
TakesAt s t end c u =
    (colour_at s.colour u ≡ Some c) × (link_at s.batch u end ≡ link_at s.batch t end)

-- the table in which t has another colour, or none
abbrev pub with_colour : Colouring → ℕ → Option ℕ → Colouring
with_colour s t c = record s { colour = set s.colour t c }

-- just the transfers of the list are placed
abbrev pub PlacesOnly : List (Option ℕ) → List ℕ → Type 0
PlacesOnly colour list = (t : ℕ) → HasColour colour t ↔ Contains list t

-- the transfers placed now are those placed before and t
pub record PlacesJust (old new : List (Option ℕ)) (t : ℕ) : Type 0 where
  pub placed : (u : ℕ) → HasColour new u ↔ (HasColour old u ⊎ (u ≡ t))

-- no transfer is placed in both
abbrev pub ArePlacedApart : List (Option ℕ) → List (Option ℕ) → Type 0
ArePlacedApart left right = (t : ℕ) → HasColour left t → HasColour right t → ⊥

-- a transfer's colour where the colours of another table stand after the k of this one
abbrev pub joined_colour : ℕ → Option ℕ → Option ℕ → Option ℕ
joined_colour k None None = None
joined_colour k None (Some c) = Some (k + c)
joined_colour k (Some c) other = Some c

-- a count that goes no further than 64 bits
abbrev pub counted : ℕ → ℕ
counted n = min n (2 ^ 64 - 1)

-- the two tables in one: the colours of the left one, and after them those of the right one
pub record IsJoined (left right table : Colouring) : Type 0 where
  pub batch : table.batch ≡ left.batch
  pub colours : table.colours ≡ left.colours + right.colours
  pub classes : (t : ℕ)
      → colour_at table.colour t
      ≡ joined_colour left.colours (colour_at left.colour t) (colour_at right.colour t)
  pub inserted : table.inserted ≡ counted (left.inserted + right.inserted)

-- the table with one colour more, after the others: each placed transfer keeps its colour, just
-- those of the class have the new one, and no other is placed
pub record HasClassMore (old : Colouring) (class : List ℕ) (new : Colouring) : Type 0 where
  pub batch : new.batch ≡ old.batch
  pub colours : new.colours ≡ old.colours + 1
  pub kept : (t c : ℕ) → colour_at old.colour t ≡ Some c → colour_at new.colour t ≡ Some c
  pub given : (t : ℕ) → Contains class t → colour_at new.colour t ≡ Some old.colours
  pub only : (t c : ℕ) → colour_at new.colour t ≡ Some c
      → (colour_at old.colour t ≡ Some c) ⊎ ((c ≡ old.colours) × Contains class t)
  pub inserted : new.inserted ≡ old.inserted
