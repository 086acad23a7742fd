-- Directions that need the fewest settings. J. Petersen, "Die Theorie der regulären graphs", 1891:
-- the edges of a graph can be directed so that each node has as many edges out as in, but for one.
-- Here out is link 0 of a module, and in is link 3; and D. König, 1916: there is a schedule of as
-- many settings as the busiest link has uses.
use Rattle.std.specs.Prelude.{◌≡◌, ℕ, ◌*◌, ◌≤◌, List, length, take, Bool, true, false, not}
use Rattle.batch.specs.declared.transfer.Kind.TheVariants.{Push, Pull}
use Rattle.batch.specs.declared.transfer.Transfer.{Transfer}
use Rattle.link_graph.specs.declared.link.End.{End}
use Rattle.link_graph.specs.declared.link.End.TheVariants.{Zero, Three}
use Rattle.link_graph.specs.declared.link.Link.{Link}
use Rattle.link_graph.specs.Certificates.{Naming, IsCertified}
use Rattle.link_graph.specs.Counts.{uses}
use Rattle.link_graph.specs.Schedules.{IsScheduleOf}
use Rattle.euler_split.specs.Pairs.{passing}
use Rattle.move_directions.specs.declared.moves.Move.{Move}
use Rattle.move_directions.specs.Ends.{module_of_end}
use Rattle.move_directions.specs.Moves.{Directs, half_ends}

-- the link of an end and a module
abbrev pub link_of : End → ℕ → Link
link_of end m = record { end = end; «module» = m }

-- the transfer that does a move and is started by its source, or else by its destination
abbrev pub directed : Move → Bool → Transfer
directed x true =
    record {
      kind = Push;
      initiator = x.source.«module»;
      own_block = x.source.block;
      responder = x.destination.«module»;
      far_block = x.destination.block;
    }
directed x false =
    record {
      kind = Pull;
      initiator = x.destination.«module»;
      own_block = x.destination.block;
      responder = x.source.«module»;
      far_block = x.source.block;
    }

-- The transfers do the first n moves. The ends of these that are in the left half are at the links
-- 0 that they use, and the others at the links 3.
pub record AreDirected (moves : List Move) (left : ℕ → Bool) (n : ℕ)
    (transfers : List Transfer) : Type 0 where
  pub done : Directs (take n moves) transfers
  pub starting : (m : ℕ)
      → uses transfers (link_of Zero m) ≡ passing (module_of_end moves) m (2 * n) left
  pub answering : (m : ℕ)
      → uses transfers (link_of Three m)
      ≡ passing (module_of_end moves) m (2 * n) (λ i. not (left i))

-- each link is used by at most half of the ends at its module, rounded up
abbrev pub HalvesEnds : List Move → List Transfer → Type 0
HalvesEnds moves batch = (link : Link) → uses batch link ≤ half_ends moves link.«module»

-- half of the ends at the module that has most of them, rounded up
pub record IsGreatestHalf (moves : List Move) (count : ℕ) : Type 0 where
  pub most : (m : ℕ) → half_ends moves m ≤ count
  pub reached : (m : ℕ) × (half_ends moves m ≡ count)

-- whatever directions the moves are given, no schedule of them has fewer settings
abbrev pub NoneIsShorter : List Move → ℕ → Type 0
NoneIsShorter moves count =
    (batch : List Transfer) (settings : List (List ℕ)) → Directs moves batch
    → IsScheduleOf batch settings → count ≤ length settings

-- a schedule of the batch that has a certificate has as many settings as half of the ends at the
-- busiest module, rounded up, and none has fewer, whatever directions the moves are given
abbrev pub NeedsFewest : List Move → List Transfer → Type 0
NeedsFewest moves batch =
    (settings : List (List ℕ)) (named : Naming) → IsCertified batch settings named
    → IsGreatestHalf moves (length settings) × NoneIsShorter moves (length settings)
