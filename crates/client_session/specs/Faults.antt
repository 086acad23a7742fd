-- When each fault of the input comes.
use Rattle.std.specs.Prelude.{◌≡◌, ℕ, ◌+◌, ◌<◌, List, length, take, Option}
use Rattle.std.specs.Io.KnownBytes.{IsAtEnd}
use Rattle.client_session.specs.declared.limits.TheConstants.{LINE_BYTES}
use Rattle.client_session.specs.Bytes.{PendingInput, HasNoFeed, IsSessionLine}
use Rattle.client_session.specs.declared.input.InputFault.{InputFault}
use Rattle.client_session.specs.declared.input.InputFault.TheVariants.{Read, LineTooLong, Cut}
use Rattle.client_session.specs.declared.input.InputFault.TheVariants.{Turns}

-- the reader failed, or was asked as often as it may be
abbrev pub IsReadOrTurns : InputFault → Type 0
IsReadOrTurns Read = Unit {0}
IsReadOrTurns Turns = Unit {0}
IsReadOrTurns LineTooLong = ⊥
IsReadOrTurns Cut = ⊥

-- so no byte came
abbrev pub HasBroughtNothing : InputFault → PendingInput → PendingInput → Type 0
HasBroughtNothing fault old new = (new.pending ≡ old.pending) × IsReadOrTurns fault

-- what each fault tells of what is left to read, and of what is pending
abbrev pub IsFaultAt : InputFault → Option (List ℕ) → PendingInput → Type 0
IsFaultAt Read known h = IsSessionLine h.pending
IsFaultAt Turns known h = IsSessionLine h.pending
IsFaultAt LineTooLong known h =
    HasNoFeed (take (LINE_BYTES + 1) h.pending) × (LINE_BYTES < length h.pending)
IsFaultAt Cut known h = IsSessionLine h.pending × (0 < length h.pending) × IsAtEnd known
