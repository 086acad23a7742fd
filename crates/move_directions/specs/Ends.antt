-- The two ends of each move as places, numbered in the order of the moves: 2t is the source of move
-- t, and 2t + 1 its destination.
use Rattle.std.specs.Prelude.{◌≡◌, ℕ, zero, suc, ◌+◌, ◌*◌, ◌<◌, ◌≤◌, List, [], ◌∷◌, length, Option}
use Rattle.std.specs.Prelude.{Some, None, Bool, not, slice_index_or}
use Rattle.euler_split.specs.Pairs.{passing}
use Rattle.move_directions.specs.declared.moves.Move.{Move}

-- the module of an end
abbrev pub module_of_end : List Move → ℕ → ℕ
module_of_end [] i = 0
module_of_end (x ∷ xs) zero = x.source.«module»
module_of_end (x ∷ xs) (suc zero) = x.destination.«module»
module_of_end (x ∷ xs) (suc (suc i)) = module_of_end xs i

-- the other end of the same move
abbrev pub other_of : ℕ → ℕ
other_of zero = 1
other_of (suc zero) = 0
other_of (suc (suc i)) = suc (suc (other_of i))

-- the first n ends have the other ends of their moves as partners, and no more have partners
pub record AreOtherEnds (n : ℕ) (partners : List (Option ℕ)) : Type 0 where
  pub joined : (i : ℕ) → i < n → slice_index_or partners i None ≡ Some (other_of i)
  pub fresh : (i : ℕ) → n ≤ i → slice_index_or partners i None ≡ None

-- The two ends of each move are in different halves, and the ends at each module are in both halves
-- alike, but for one.
pub record HalvesModules (moves : List Move) (left : ℕ → Bool) : Type 0 where
  pub opposed : (t : ℕ) → t < length moves → left (2 * t) ≡ not (left (2 * t + 1))
  pub even : (m : ℕ)
      → (passing (module_of_end moves) m (2 * length moves) left
      ≤ passing (module_of_end moves) m (2 * length moves) (λ i. not (left i)) + 1)
      × (passing (module_of_end moves) m (2 * length moves) (λ i. not (left i))
      ≤ passing (module_of_end moves) m (2 * length moves) left + 1)
