-- The links that transfers use, and matchings of transfers.
use Rattle.std.specs.Prelude.{◌≡◌, ℕ, List, Some, slice_get, AllPairs, ◌⊎◌}
use Rattle.batch.specs.declared.transfer.Transfer.{Transfer}
use Rattle.link_graph.specs.declared.link.End.TheVariants.{Zero, Three}
use Rattle.link_graph.specs.declared.link.Link.{Link}

-- link 0 of the initiator
abbrev pub start_link : Transfer → Link
start_link x = record { end = Zero; «module» = x.initiator }

-- link 3 of the responder
abbrev pub answer_link : Transfer → Link
answer_link x = record { end = Three; «module» = x.responder }

-- transfer t of the batch uses the link; a number that no transfer has uses none
abbrev pub Uses : List Transfer → ℕ → Link → Type 0
Uses batch t link =
    (x : Transfer) × (slice_get batch t ≡ Some x) × ((link ≡ start_link x) ⊎ (link ≡ answer_link x))

-- two transfers use no common link
pub record AreApart (batch : List Transfer) (t u : ℕ) : Type 0 where
  pub none_common : (link : Link) → Uses batch t link → Uses batch u link → ⊥

-- no two numbers at different positions use a common link
abbrev pub IsMatching : List Transfer → List ℕ → Type 0
IsMatching batch setting = AllPairs (AreApart batch) setting
