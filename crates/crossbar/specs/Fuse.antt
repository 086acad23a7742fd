-- A port to the switches of a rack that takes so many bytes and then fails. It is this project's
-- own, for tests of what a failing port leaves.
use Rattle.std.specs.Prelude.{◌≡◌, ◌≤◌, ◌-◌, ℕ, List, take, Option, Some, None, refl}
use Rattle.std.specs.Coded.{Coded, code_by, coded×, coded_ℕ, coded_option}
use Rattle.crossbar.specs.Chips.{Switches, switches_code, CarriesOutAt, CarriesOutWholeAt}
use Rattle.crossbar.specs.declared.chip.Chip.{Chip}

pub record Fuse : Type 0 where
  -- the switches at the port's other end
  pub switches : Switches
  -- how many bytes the port still takes, to both together, and nothing once it has failed
  pub remaining : Option ℕ
  -- how often the port has failed
  pub failures : ℕ

-- the port still takes so many bytes
abbrev pub HasRemaining : Option ℕ → ℕ → Type 0
HasRemaining (Some remaining) bytes = bytes ≤ remaining
HasRemaining None bytes = ⊥

-- what is left once it has taken so many
abbrev pub remaining_after : Option ℕ → ℕ → Option ℕ
remaining_after (Some remaining) bytes = Some (remaining - bytes)
remaining_after None bytes = None

-- the commands of the bytes were carried out and answered
abbrev pub Carries : Chip → List ℕ → Fuse → Fuse → List ℕ → Type 0
Carries chip bytes old new replies = CarriesOutAt chip bytes old.switches new.switches replies

-- the commands that are whole within so many of the bytes were carried out, or none where the port
-- had failed
abbrev pub CarriesFront : Chip → Option ℕ → List ℕ → Switches → Switches → Type 0
CarriesFront chip (Some remaining) bytes old new =
    CarriesOutWholeAt chip (take remaining bytes) old new
CarriesFront chip None bytes old new = new ≡ old

-- the commands that are whole within the bytes that were left were carried out
abbrev pub CarriesRemaining : Chip → List ℕ → Fuse → Fuse → Type 0
CarriesRemaining chip bytes old new =
    CarriesFront chip old.remaining bytes old.switches new.switches

-- a fuse is stored as its three fields
abbrev pub fuse_code : Coded Fuse
fuse_code =
    code_by (Switches × (Option ℕ × ℕ))
    (coded× switches_code (coded× (coded_option coded_ℕ) coded_ℕ))
    (λ f. (f.switches, (f.remaining, f.failures)))
    (λ p. record { switches = p.0; remaining = p.1.0; failures = p.1.1 }) (λ _. refl)
