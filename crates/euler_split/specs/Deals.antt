-- Members dealt to two halves by turns.
use Rattle.std.specs.Prelude.{◌≡◌, ℕ, zero, suc, ◌+◌, List, ◌++◌, take, Option, Bool, false, not}
use Rattle.std.specs.Prelude.{cond}
use Rattle.std.specs.Option.{unwrap_or}
use Rattle.std.specs.List.Sorted.{IsPermutation}
use Rattle.batch.specs.declared.transfer.Transfer.{Transfer}
use Rattle.link_graph.specs.declared.link.End.{End}
use Rattle.link_graph.specs.declared.link.End.TheVariants.{Zero, Three}
use Rattle.link_graph.specs.declared.link.Link.{Link}
use Rattle.euler_split.specs.Split.{uses_among}
use Rattle.euler_split.specs.Pairs.{modules_in}
use Rattle.link_graph.specs.Masks.{has_pair}
use Rattle.euler_split.specs.Masks.{toggled}
use Rattle.euler_split.specs.Trails.{pairs_of_module}
use Rattle.euler_split.specs.Walks.{half_at}
use Rattle.euler_split.specs.Evenness.{pair_count}

-- whether a place is in the left half
abbrev pub in_left : List (Option Bool) → ℕ → Bool
in_left halves i = unwrap_or (half_at halves i) false

-- the pairs that an odd number of the first n places have
abbrev pub odd_among : (End → ℕ → ℕ) → ℕ → ℕ → ℕ → Bool
odd_among module_of zero u v = false
odd_among module_of (suc n) u v =
    toggled (odd_among module_of n) (module_of Zero n) (module_of Three n) u v

-- whether just one of two is true
abbrev pub differ : Bool → Bool → Bool
differ a b = cond a (not b) b

-- The first n members stand in the two halves, and each has changed its pair's turn. Of a pair, and
-- at a link, the left half has as many more than the right one as it has fewer turns now.
pub record AreDealt (batch : List Transfer) (whole : List ℕ) (n : ℕ) (turns now : List ℕ)
    (left right : List ℕ) : Type 0 where
  pub parts : IsPermutation (take n whole) (left ++ right)
  pub turned : (u v : ℕ)
      → has_pair now u v ≡ differ (has_pair turns u v) (odd_among (modules_in batch whole) n u v)
  pub pairs : (u v : ℕ)
      → pair_count batch left u v + cond (has_pair now u v) 1 0
      ≡ pair_count batch right u v + cond (has_pair turns u v) 1 0
  pub even : (link : Link)
      → uses_among batch left link + pairs_of_module (has_pair now) link.end link.«module»
      ≡ uses_among batch right link + pairs_of_module (has_pair turns) link.end link.«module»
