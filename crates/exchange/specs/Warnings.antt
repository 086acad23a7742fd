-- A line on standard error before the settings of a drive.
use Rattle.std.specs.Prelude.{◌≡◌, ◌⊎◌, ℕ, List, Option, Some, None, Result, String, string_bytes}
use Rattle.exchange.specs.declared.warned.WarningObserver.{WarningObserver}
use Rattle.named_files.specs.Notes.{IsToldInPart}
use Rattle.switch_driver.specs.Lines.{HasToldLine}
use Rattle.switch_driver.specs.declared.drive_observer.Halt.{Halt}

-- there is such a line, and as much of it as could be written was told
abbrev pub IsWarned : {Z : Type 0} → Option (String Z) → Option (List ℕ) → Option (List ℕ) → Type 0
IsWarned {Z} warning before after =
    (line : String Z) × (warning ≡ Some line) × IsToldInPart before after (string_bytes line)

-- that, or nothing was told
abbrev pub MayHaveWarned : {Z : Type 0} → Option (String Z) → Option (List ℕ) → Option (List ℕ)
    → Type 0
MayHaveWarned {Z} warning before after = (after ≡ before) ⊎ IsWarned warning before after

-- it was told, and isn't told again; or nothing was told
abbrev pub IsWarnedOnce : {I O E : Type 0} → (E → Option (List ℕ)) → WarningObserver I O E
    → WarningObserver I O E
    → Type 0
IsWarnedOnce {I} {O} {E} contents old new =
    (new.err.ghost_name ≡ old.err.ghost_name)
    × (((new.warning ≡ old.warning) × (contents new.err.now ≡ contents old.err.now))
    ⊎ ((new.warning ≡ None)
    × IsWarned old.warning (contents old.err.now) (contents new.err.now)))

-- the line of a setting was told after that
abbrev pub HasToldWarned : {I O E : Type 0} → (I → Option (List ℕ)) → (O → Option (List ℕ))
    → (E → Option (List ℕ)) → ℕ → List ℕ → Result (Unit {0}) Halt → WarningObserver I O E
    → WarningObserver I O E → Type 0
HasToldWarned {I} {O} {E} remaining contents beside setting numbers result old new =
    HasToldLine remaining contents setting numbers result old.lines new.lines
    × IsWarnedOnce beside old new
