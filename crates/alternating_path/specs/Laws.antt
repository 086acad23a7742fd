-- What the laws state. Proofs use them; no contract of a call cites them.
use Rattle.std.specs.Prelude.{◌≡◌, ℕ, ◌<◌, List, Option, None}
use Rattle.batch.specs.declared.transfer.Transfer.{Transfer}
use Rattle.link_graph.specs.declared.link.Link.{Link}
use Rattle.link_graph.specs.Uses.{Uses}
use Rattle.link_graph.specs.Counts.{uses}
use Rattle.alternating_path.specs.Colouring.{colour_at}
use Rattle.alternating_path.specs.Counts.{placed_uses}

-- a link of a transfer that isn't placed has fewer placed transfers than uses
abbrev pub UnplacedFindRoom : Type 0
UnplacedFindRoom =
    (batch : List Transfer) (colour : List (Option ℕ)) (t : ℕ) (link : Link) → Uses batch t link
    → colour_at colour t ≡ None → placed_uses batch colour link < uses batch link
