-- How many transfers use a link: the degree of a node of the batch's bipartite multigraph.
use Rattle.std.specs.Prelude.{ℕ, zero, suc, ◌<◌, ◌≤◌, ◌+◌, Bool, cond, List, All, AllPairs}
use Rattle.std.specs.Prelude.{Contains, ◌==◌, count_by}
use Rattle.batch.specs.declared.transfer.Transfer.{Transfer}
use Rattle.link_graph.specs.declared.link.End.{End}
use Rattle.link_graph.specs.declared.link.End.TheVariants.{Zero, Three}
use Rattle.link_graph.specs.declared.link.Link.{Link}
use Rattle.link_graph.specs.Links.{StandsBefore}
use Rattle.link_graph.specs.Uses.{Uses}

-- how many numbers below n pass a test
abbrev pub count_below : ℕ → (ℕ → Bool) → ℕ
count_below zero test = 0
count_below (suc n) test = cond (test n) 1 0 + count_below n test

-- the transfer's module at that end: the initiator has link 0, the responder link 3
abbrev pub module_at : End → Transfer → ℕ
module_at Zero x = x.initiator
module_at Three x = x.responder

-- how many transfers of the batch use the link; equal transfers count apart
abbrev pub uses : List Transfer → Link → ℕ
uses batch link = count_by (λ x. module_at link.end x == link.«module») batch

-- just the numbers of the transfers that use the link, ascending
pub record AreUsers (batch : List Transfer) (link : Link) (users : List ℕ) : Type 0 where
  pub ascending : AllPairs (λ t u. t < u) users
  pub each : All (λ t. Uses batch t link) users
  pub every : (t : ℕ) → Uses batch t link → Contains users t

-- the link is used, none is used more, and each one before it is used less
pub record IsBusiest (batch : List Transfer) (link : Link) : Type 0 where
  pub used : 0 < uses batch link
  pub most : (other : Link) → uses batch other ≤ uses batch link
  pub first : (other : Link) → StandsBefore other link → uses batch other < uses batch link
