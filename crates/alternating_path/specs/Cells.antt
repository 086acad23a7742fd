-- How the cells of a table show a colouring: each colour has a row, with a cell for each link,
-- which has the transfer of that colour that uses the link.
use Rattle.std.specs.Prelude.{◌≡◌, ◌≢◌, ℕ, zero, suc, ◌+◌, ◌*◌, ◌<◌, ◌≤◌, List, length, map, Option}
use Rattle.std.specs.Prelude.{Some, None, Bool, false, ◌==◌, cond, slice_index_or}
use Rattle.std.specs.List.{range_with_len}
use Rattle.batch.specs.Batches.{IsBatch}
use Rattle.batch.specs.declared.transfer.Transfer.{Transfer}
use Rattle.link_graph.specs.declared.limits.TheConstants.{LINKS}
use Rattle.link_graph.specs.declared.link.End.{End}
use Rattle.link_graph.specs.declared.link.End.TheVariants.{Zero}
use Rattle.link_graph.specs.Links.{link_index}
use Rattle.alternating_path.specs.Ends.{link_at}
use Rattle.alternating_path.specs.Colouring.{Colouring, colour_at}

-- the place in a row of the link that transfer t uses at an end
unfoldable pub place_at : List Transfer → ℕ → End → ℕ
place_at batch t end = link_index (link_at batch t end)

-- what stands in the row of colour c at a place
abbrev pub holder_at : List (Option ℕ) → ℕ → ℕ → Option ℕ
holder_at cells c place = slice_index_or cells (c * LINKS + place) None

-- whether a cell holds transfer t
abbrev pub is_transfer : ℕ → Option ℕ → Bool
is_transfer t None = false
is_transfer t (Some u) = u == t

-- the last number below n that passes a test
abbrev pub last_below : ℕ → (ℕ → Bool) → Option ℕ
last_below zero test = None
last_below (suc n) test = cond (test n) (Some n) (last_below n test)

-- the last colour in whose row transfer t stands at its link 0
unfoldable pub shown_colour : List Transfer → ℕ → List (Option ℕ) → ℕ → Option ℕ
shown_colour batch k cells t =
    last_below k (λ c. is_transfer t (holder_at cells c (place_at batch t Zero)))

-- the colour of each transfer
unfoldable pub shown_colours : List Transfer → ℕ → List (Option ℕ) → List (Option ℕ)
shown_colours batch k cells = map (shown_colour batch k cells) (range_with_len 0 (length batch))

-- the colouring that k rows of cells show
abbrev pub shown_colouring : List Transfer → ℕ → List (Option ℕ) → ℕ → Colouring
shown_colouring batch k cells inserted =
    record { batch = batch; colours = k; colour = shown_colours batch k cells; inserted = inserted }

-- the cells of k rows have just the placed transfers, each at both of its links in the row of its
-- colour
pub record AreCellsOf (batch : List Transfer) (k : ℕ)
    (colour cells : List (Option ℕ)) : Type 0 where
  pub is_batch : IsBatch batch
  pub sized : length colour ≡ length batch
  pub rows : length cells ≡ k * LINKS
  pub held : (t c : ℕ) (end : End) → colour_at colour t ≡ Some c
      → holder_at cells c (place_at batch t end) ≡ Some t
  pub back : (c place t : ℕ) → place < LINKS → holder_at cells c place ≡ Some t
      → (colour_at colour t ≡ Some c) × ((end : End) × (place_at batch t end ≡ place))

-- the table's cells show the colouring that contracts see
abbrev pub ShowColouring : List Transfer → ℕ → List (Option ℕ) → Type 0
ShowColouring batch k cells = AreCellsOf batch k (shown_colours batch k cells) cells

-- the rows of the colours below c are as they were
abbrev pub KeepsRowsBelow : ℕ → List (Option ℕ) → List (Option ℕ) → Type 0
KeepsRowsBelow c old new =
    (i : ℕ) → i < c * LINKS → slice_index_or new i None ≡ slice_index_or old i None

-- the row of colour c is out, and those of the colours above it came one row up
abbrev pub MovesRowsUp : ℕ → List (Option ℕ) → List (Option ℕ) → Type 0
MovesRowsUp c old new =
    (i : ℕ) → c * LINKS ≤ i → slice_index_or new i None ≡ slice_index_or old (i + LINKS) None

-- all transfers start at the first n modules
abbrev pub StartBelow : List Transfer → ℕ → Type 0
StartBelow batch n = (t : ℕ) → t < length batch → place_at batch t Zero < n

-- the transfers of colour c, each at the module whose link 0 it uses
pub record AreStarts (s : Colouring) (c : ℕ) (row : List (Option ℕ)) : Type 0 where
  pub held : (t : ℕ) → colour_at s.colour t ≡ Some c
      → slice_index_or row (place_at s.batch t Zero) None ≡ Some t
  pub back : (m t : ℕ) → slice_index_or row m None ≡ Some t
      → (colour_at s.colour t ≡ Some c) × (place_at s.batch t Zero ≡ m)

-- in the list the transfers of the first n cells have the colour c now, and all others what they
-- had
pub record AreNoted (cells : List (Option ℕ)) (n c : ℕ) (old new : List (Option ℕ)) : Type 0 where
  pub sized : length new ≡ length old
  pub noted : (m t : ℕ) → m < n → slice_index_or cells m None ≡ Some t → colour_at new t ≡ Some c
  pub rest : (t : ℕ) → ((m : ℕ) → m < n → slice_index_or cells m None ≢ Some t)
      → colour_at new t ≡ colour_at old t
