-- Which blocks of a batch are held sources: they have to be copied before any word moves. This
-- project's choice.
use Rattle.std.specs.Prelude.{ℕ, Bool, true, false, ◌≡◌, ◌≢◌, ◌<◌, ◌↔◌, ◌==◌, ◌&&◌, ◌||◌, List, []}
use Rattle.std.specs.Prelude.{◌∷◌, length, Contains, AllPairs}
use Rattle.batch.specs.declared.transfer.Place.{Place}
use Rattle.batch.specs.declared.transfer.Transfer.{Transfer}
use Rattle.batch.specs.Places.{destination_of}
use Rattle.batch.specs.Overlap.{source_at}

-- whether two places are one
abbrev pub same_place : Place → Place → Bool
same_place p q = p.«module» == q.«module» && p.block == q.block

-- whether a transfer of the list writes the block
abbrev pub is_written : List Transfer → Place → Bool
is_written [] p = false
is_written (t ∷ ts) p = same_place (destination_of t) p || is_written ts p

-- a transfer of the list reads the block
abbrev pub IsRead : List Transfer → Place → Type 0
IsRead ts p = (i : ℕ) × (i < length ts) × (source_at ts i ≡ p)

-- a transfer of the list reads the block, and one of them, the same or another, writes it
abbrev pub IsHeldSource : List Transfer → Place → Type 0
IsHeldSource ts p = IsRead ts p × (is_written ts p ≡ true)

abbrev pub HasHeldSource : List Transfer → Type 0
HasHeldSource ts = (p : Place) × IsHeldSource ts p

-- these are the held sources of the list, each of them once
pub record AreHeldSources (ts : List Transfer) (held : List Place) : Type 0 where
  pub each : (p : Place) → Contains held p ↔ IsHeldSource ts p
  pub once : AllPairs (λ p q. p ≢ q) held
