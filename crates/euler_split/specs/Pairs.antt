-- Places, each of them at a link, that are paired two by two at each link. The places of a list of
-- transfers are at the links of one end; a link is told by its module.
use Rattle.std.specs.Prelude.{◌≡◌, ◌≢◌, ◌==◌, ℕ, ◌+◌, ◌≤◌, List, length, map, Option, Some, None}
use Rattle.std.specs.Prelude.{Bool, ◌&&◌, not, slice_index, slice_index_or, set}
use Rattle.batch.specs.declared.transfer.Transfer.{Transfer}
use Rattle.link_graph.specs.declared.link.End.{End}
use Rattle.link_graph.specs.Counts.{count_below, module_at}

-- the module that transfer t has at an end
unfoldable pub module_in : List Transfer → End → ℕ → ℕ
module_in batch end t = slice_index (map (module_at end) batch) t

-- partners are each other's, and nobody is his own
pub record ArePartners (partners : List (Option ℕ)) : Type 0 where
  pub symmetric : (u v : ℕ) → slice_index_or partners u None ≡ Some v
      → slice_index_or partners v None ≡ Some u
  pub apart : (u v : ℕ) → slice_index_or partners u None ≡ Some v → u ≢ v

-- a test of places that tells partners apart
abbrev pub TellsApart : List (Option ℕ) → (ℕ → Bool) → Type 0
TellsApart partners test =
    (u v : ℕ) → slice_index_or partners u None ≡ Some v → test u ≡ not (test v)

-- the module that each place of a list of transfers has at an end
abbrev pub modules_in : List Transfer → List ℕ → End → ℕ → ℕ
modules_in batch whole end i = module_in batch end (slice_index whole i)

-- how many of the first n places are at the link of module m and pass the test
abbrev pub passing : (ℕ → ℕ) → ℕ → ℕ → (ℕ → Bool) → ℕ
passing module_of m n test = count_below n (λ i. test i && module_of i == m)

-- so many places are paired, and whichever test tells partners apart, about half of the places at
-- each link pass it
pub record AreBalanced (module_of : ℕ → ℕ) (count : ℕ)
    (partners : List (Option ℕ)) : Type 0 where
  pub sized : length partners ≡ count
  pub pairs : ArePartners partners
  pub even : (test : ℕ → Bool) → TellsApart partners test → (m : ℕ)
      → (passing module_of m count test ≤ passing module_of m count (λ i. not (test i)) + 1)
      × (passing module_of m count (λ i. not (test i)) ≤ passing module_of m count test + 1)

-- A place comes to a link. Where none waits there, it waits; else it and the one that waits are
-- partners.
pub record HasCome (link place : ℕ)
    (waiting partners waiting_now partners_now : List (Option ℕ)) : Type 0 where
  pub waits : slice_index_or waiting link None ≡ None
      → (waiting_now ≡ set waiting link (Some place)) × (partners_now ≡ partners)
  pub paired : (w : ℕ) → slice_index_or waiting link None ≡ Some w
      → (waiting_now ≡ set waiting link None)
      × (partners_now ≡ set (set partners w (Some place)) place (Some w))
