-- Wires that carry so many bytes and then fail. They are this project's own, for tests of what a
-- failing wire leaves.
use Rattle.std.specs.Prelude.{ℕ, List}

-- a wire with a fuse
pub record Fuse : Type 0 where
  -- how many bytes it still carries
  pub remaining : ℕ
  -- how often it has failed
  pub failures : ℕ
  -- the bytes that it has carried
  pub carried : List ℕ
