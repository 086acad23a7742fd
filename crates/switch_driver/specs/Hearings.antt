-- Whoever is told that a setting stands.
use Rattle.std.specs.Prelude.{ℕ, List, Result}
use Rattle.switch_driver.specs.declared.drive_observer.Halt.{Halt}

-- What becomes of it where it is told that the setting of this number, of these transfers, stands,
-- and what it says: that the next one may come, or why none is to.
abbrev pub Hearing : Type 0 → Type 1
Hearing S = S → ℕ → List ℕ → Result (Unit {0}) Halt → S → Type 0
