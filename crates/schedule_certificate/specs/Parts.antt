-- Parts of the transfers of a batch, and colourings of just these.
use Rattle.std.specs.Prelude.{◌≡◌, ◌↔◌, ℕ, ◌+◌, ◌/◌, ◌<◌, ◌≤◌, ◌⊎◌, max, List, ◌++◌, length, Option}
use Rattle.std.specs.Prelude.{None, All, Contains}
use Rattle.std.specs.List.Sorted.{IsPermutation}
use Rattle.batch.specs.declared.transfer.Transfer.{Transfer}
use Rattle.link_graph.specs.declared.link.End.{End}
use Rattle.link_graph.specs.declared.link.Link.{Link}
use Rattle.link_graph.specs.Certificates.{AreDistinct}
use Rattle.link_graph.specs.Counts.{uses, module_at}
use Rattle.link_graph.specs.Marks.{members}
use Rattle.euler_split.specs.Split.{uses_among}
use Rattle.alternating_path.specs.Colouring.{Colouring, colour_at, HasColour, PlacesOnly}
use Rattle.schedule_certificate.specs.Reinsertions.{AreFew}
use Rattle.schedule_certificate.specs.declared.degree.KnownDegree.{KnownDegree}
use Rattle.schedule_certificate.specs.declared.degree.KnownDegree.TheVariants.{Is, AtMost}

-- distinct numbers of transfers of the batch
pub record IsPart (batch : List Transfer) (part : List ℕ) : Type 0 where
  pub known : All (λ t. t < length batch) part
  pub distinct : AreDistinct part

-- d is the uses of the link that most of the transfers use: the greatest degree of their graph
pub record IsDegree (transfers : List Transfer) (d : ℕ) : Type 0 where
  pub most : (link : Link) → uses transfers link ≤ d
  pub reached : (d ≡ 0) ⊎ ((link : Link) × (uses transfers link ≡ d))

-- what is known of the degree holds of it
abbrev pub IsDegreeKnown : List Transfer → KnownDegree → Type 0
IsDegreeKnown transfers (Is d) = IsDegree transfers d
IsDegreeKnown transfers (AtMost d) = (link : Link) → uses transfers link ≤ d

-- half of the degree, or half of an odd one, rounded up
abbrev pub IsHalf : ℕ → KnownDegree → Type 0
IsHalf degree (Is half) = half + half ≡ degree
IsHalf degree (AtMost half) = half ≡ (degree + 1) / 2

-- each transfer uses one of the first n links of an end
pub record IsWidth (batch : List Transfer) (n : ℕ) : Type 0 where
  pub at : End
  pub below : All (λ x. module_at at x < n) batch

-- distinct transfers, with what is known of their degree
abbrev pub IsPartBy : List Transfer → List ℕ → KnownDegree → Type 0
IsPartBy batch part known = IsPart batch part × IsDegreeKnown (members batch part) known

-- The two halves together are the whole in another order. In each a link has at most half of the
-- whole's degree, rounded up.
pub record AreHalves (batch : List Transfer) (whole left right : List ℕ) : Type 0 where
  pub parts : IsPermutation whole (left ++ right)
  pub left_uses : (link : Link) (d : ℕ) → IsDegree (members batch whole) d
      → uses_among batch left link ≤ (d + 1) / 2
  pub right_uses : (link : Link) (d : ℕ) → IsDegree (members batch whole) d
      → uses_among batch right link ≤ (d + 1) / 2

-- the halves of a part of degree 2: in each of them a link has one use at most
pub record AreHalvesOfTwo (batch : List Transfer) (whole left right : List ℕ) : Type 0 where
  pub is_part : IsPart batch whole
  pub is_degree : IsDegree (members batch whole) 2
  pub halves : AreHalves batch whole left right

-- just the transfers of the part are placed, in as many colours as its degree (one where that is
-- 0), and few were put in one by one
pub record IsColouredPart (batch : List Transfer) (part : List ℕ) (table : Colouring) : Type 0 where
  pub degree : ℕ
  pub is_degree : IsDegree (members batch part) degree
  pub batch_is : table.batch ≡ batch
  pub colours_is : table.colours ≡ max 1 degree
  pub placed : PlacesOnly table.colour part
  pub few : AreFew (length part) degree table.inserted

-- the colourings of two halves of a part of degree d, where a link has two uses
pub record AreColouredHalves (batch : List Transfer) (whole : List ℕ) (d : ℕ)
    (left right : Colouring) : Type 0 where
  pub front : List ℕ
  pub back : List ℕ
  pub is_part : IsPart batch whole
  pub is_degree : IsDegree (members batch whole) d
  pub high : 1 < d
  pub halves : AreHalves batch whole front back
  pub front_coloured : IsColouredPart batch front left
  pub back_coloured : IsColouredPart batch back right

-- the transfers placed now are those placed before and those of the class
abbrev pub PlacesClass : List (Option ℕ) → List (Option ℕ) → List ℕ → Type 0
PlacesClass old new class = (t : ℕ) → HasColour new t ↔ (HasColour old t ⊎ Contains class t)

-- These transfers aren't placed, and each link has at least as many colours as it is used by them
-- and the placed ones together.
pub record HasRoomFor (table : Colouring) (class : List ℕ) : Type 0 where
  pub whole : List ℕ
  pub is_part : IsPart table.batch whole
  pub room : (link : Link) → uses_among table.batch whole link ≤ table.colours
  pub each : (t : ℕ) → Contains whole t ↔ (HasColour table.colour t ⊎ Contains class t)
  pub out : (t : ℕ) → Contains class t → colour_at table.colour t ≡ None
  pub distinct : AreDistinct class
