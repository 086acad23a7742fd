-- How many placed transfers use a link.
use Rattle.std.specs.Prelude.{◌≡◌, ℕ, List, length, Option, None, is_some, Bool, ◌&&◌, ◌==◌}
use Rattle.batch.specs.declared.transfer.Transfer.{Transfer}
use Rattle.link_graph.specs.declared.link.End.{End}
use Rattle.link_graph.specs.declared.link.Link.{Link}
use Rattle.link_graph.specs.Uses.{Uses}
use Rattle.link_graph.specs.Counts.{count_below, module_at}
use Rattle.batch.specs.Overlap.{transfer_at}
use Rattle.alternating_path.specs.Ends.{link_at}
use Rattle.alternating_path.specs.Colouring.{Colouring, colour_at}

-- whether transfer t uses the link
unfoldable pub uses_link : List Transfer → Link → ℕ → Bool
uses_link batch link t = module_at link.end (transfer_at batch t) == link.«module»

-- how many placed transfers use the link
unfoldable pub placed_uses : List Transfer → List (Option ℕ) → Link → ℕ
placed_uses batch colour link =
    count_below (length batch) (λ t. uses_link batch link t && is_some (colour_at colour t))

-- how many placed transfers use the link that t uses at an end
abbrev pub placed_uses_at : Colouring → ℕ → End → ℕ
placed_uses_at s t end = placed_uses s.batch s.colour (link_at s.batch t end)

-- one of t's links is full: the placed transfers that use it have all colours
pub record HasFullLink (s : Colouring) (t : ℕ) : Type 0 where
  pub link : Link
  pub used : Uses s.batch t link
  pub full : placed_uses s.batch s.colour link ≡ s.colours

-- t isn't placed, and there is no room for it
abbrev pub IsShutOut : Colouring → ℕ → Type 0
IsShutOut s t = (colour_at s.colour t ≡ None) × HasFullLink s t
