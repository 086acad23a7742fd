-- A module of a rack.
use Rattle.std.specs.Prelude.{ℕ}
use Rattle.module_memory.specs.Store.{Store}

-- the words of the rack, and the number of the module
pub record Housed : Type 0 where
  pub store : Store
  pub number : ℕ
