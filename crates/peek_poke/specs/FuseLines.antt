-- A line that may have a fuse.
use Rattle.std.specs.Prelude.{◌<◌, ℕ, List, Option, Some, None}
use Rattle.peek_poke.specs.declared.fuse.FuseLine.{FuseLine}
use Rattle.peek_poke.specs.declared.fuse.FuseLine.TheVariants.{Whole, Fused}

-- how many bytes it still carries, where it has a fuse
abbrev pub remaining_of : FuseLine → Option ℕ
remaining_of (Whole wire) = None
remaining_of (Fused wire) = Some wire.remaining

-- how often it has failed
abbrev pub failures_of : FuseLine → ℕ
failures_of (Whole wire) = 0
failures_of (Fused wire) = wire.failures

-- the bytes that it has carried
abbrev pub carried_by : FuseLine → List ℕ
carried_by (Whole wire) = wire
carried_by (Fused wire) = wire.carried

-- it has no fuse
abbrev pub IsWhole : FuseLine → Type 0
IsWhole (Whole wire) = Unit {0}
IsWhole (Fused wire) = ⊥

-- it carries a byte more
abbrev pub HasByte : FuseLine → Type 0
HasByte (Whole wire) = Unit {0}
HasByte (Fused wire) = 0 < wire.remaining
