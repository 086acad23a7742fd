-- Moves of blocks, lists of them, and how many of their ends are at a module. A move has no
-- direction: either of its two ends may start the transfer that does it.
use Rattle.std.specs.Prelude.{◌≡◌, ℕ, ◌+◌, ◌/◌, ◌≤◌, ◌==◌, cond, List, length, map, All, sum_by}
use Rattle.batch.specs.declared.limits.TheConstants.{MAX_TRANSFERS}
use Rattle.batch.specs.declared.transfer.Transfer.{Transfer}
use Rattle.batch.specs.Places.{source_of, destination_of}
use Rattle.move_directions.specs.declared.moves.Move.{Move}
use Rattle.move_directions.specs.Text.{IsWithin}

-- what every list of moves keeps: not too many, all of them between blocks of the widest shape
pub record IsMoveList (moves : List Move) : Type 0 where
  pub few : length moves ≤ MAX_TRANSFERS
  pub within : All IsWithin moves

-- what a transfer moves
abbrev pub move_of : Transfer → Move
move_of t = record { source = source_of t; destination = destination_of t }

-- the batch does just these moves, in their order: it gives each of them a direction
abbrev pub Directs : List Move → List Transfer → Type 0
Directs moves batch = map move_of batch ≡ moves

-- ---- ends

-- how many of the move's two ends are at the module; both are where it is within the module
abbrev pub ends_of : ℕ → Move → ℕ
ends_of m x = cond (x.source.«module» == m) 1 0 + cond (x.destination.«module» == m) 1 0

-- how many ends of moves are at the module
abbrev pub end_count : List Move → ℕ → ℕ
end_count moves m = sum_by (λ x. ends_of m x) moves

-- half of them, rounded up
abbrev pub half_ends : List Move → ℕ → ℕ
half_ends moves m = (end_count moves m + 1) / 2
